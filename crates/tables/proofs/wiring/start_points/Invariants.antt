use Rattle.std.proofs.Common.{◌≡◌, take}
use Rattle.drawing.specs.Nets.{starts_of}
use Rattle.tables.proofs.wiring.start_points.Given as goal

abbrev pub invariant-loop-c : goal.invariant-loop-c
invariant-loop-c l = l.starts.items ≡ starts_of (take l.c-index l.corners)
