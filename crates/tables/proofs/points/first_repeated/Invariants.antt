use Rattle.tables.proofs.Bucketing.{Filled}
use Rattle.tables.proofs.points.first_repeated.Given as goal

abbrev pub invariant-loop-p : goal.invariant-loop-p
invariant-loop-p l = Filled l.points l.p l.heads l.links
