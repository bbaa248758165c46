-- The answer to a check, as it is written.
use Rattle.std.specs.Prelude.{ℕ, List, ◌++◌, Ok, Err, Result, codes, decimal}
use Rattle.drawing.specs.Causes.{Fault, number}

-- the number of the check that failed, and the place; or 0, and how many edges there are
abbrev pub written : Result ℕ Fault → List ℕ
written (Ok edges) = codes "check 0 " ++ decimal edges
written (Err fault) = codes "check " ++ (decimal (number fault.cause) ++ (codes " " ++ decimal fault.place))
