-- The verdict on a drawing.
use Rattle.std.specs.Prelude.{Ok, Err, Result}
use Rattle.drawing.specs.Causes.{Fault}
use Rattle.drawing.specs.Verdicts.{Tables, Sound, Refused, Draws}
use Rattle.block.specs.declared.body.Block.{Block}
use Rattle.block.specs.Checked.{Checked}

-- The drawing is sound, and the block, a checked one, is the one that it draws.
pub record Drawn (t : Tables) (b : Block) : Type 0 where
  pub sound : Sound t
  pub draws : Draws t b
  pub checked : Checked b

-- A block that the drawing draws, where it is sound; or the first check that fails, with its place.
abbrev pub Judged : Tables → Result Block Fault → Type 0
Judged t (Ok b) = Drawn t b
Judged t (Err f) = Refused t f
