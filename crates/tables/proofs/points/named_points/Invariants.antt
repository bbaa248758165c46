use Rattle.tables.proofs.Naming.{Names}
use Rattle.tables.proofs.points.named_points.Given as goal

abbrev pub invariant-loop-corner : goal.invariant-loop-corner
invariant-loop-corner l = Names l.corners l.corner-index l.named
