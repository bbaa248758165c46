use Rattle.tables.proofs.Bucketing.{Walk, to_come}
use Rattle.tables.proofs.points.is_repeated.Given as goal

abbrev pub invariant-loop-earlier : goal.invariant-loop-earlier
invariant-loop-earlier l = Walk l.points l.p l.earlier

abbrev pub decreases-loop-earlier : goal.decreases-loop-earlier
decreases-loop-earlier l = to_come l.earlier
