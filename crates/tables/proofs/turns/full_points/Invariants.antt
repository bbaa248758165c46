use Rattle.tables.proofs.Turning.{Full}
use Rattle.tables.proofs.turns.full_points.Given as goal

abbrev pub invariant-loop-e : goal.invariant-loop-e
invariant-loop-e l = Full l.starts l.marks l.e l.full
