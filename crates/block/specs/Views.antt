-- The verdict of the drawing checks.
use Rattle.std.specs.Prelude.{Some, None, Ok, Err, Option, Result}
use Rattle.drawing.specs.Causes.{Fault}
use Rattle.drawing.specs.Verdicts.{Tables, Sound, Refused}
use Rattle.block.specs.declared.body.Block.{Block}

-- A verdict is a refusal, or none: the first check that fails, with its place, or that the drawing is sound.
abbrev pub Verdict : Tables → Option Fault → Type 0
Verdict t None = Sound t
Verdict t (Some f) = Refused t f

-- the refusal in an answer
abbrev pub fault_of : Result Block Fault → Option Fault
fault_of (Ok b) = None
fault_of (Err f) = Some f
