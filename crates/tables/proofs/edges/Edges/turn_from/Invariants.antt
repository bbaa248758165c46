use Rattle.std.proofs.Common.{◌<◌, length}
use Rattle.tables.specs.Marked.{unmarked}
use Rattle.tables.specs.Turns.{turn_of}
use Rattle.tables.proofs.Cycles.{Going}
use Rattle.tables.proofs.edges.Edges.turn_from.Given as goal

abbrev pub invariant-loop-marks : goal.invariant-loop-marks
invariant-loop-marks l = Going (turn_of l.self.next.now l.self.opposite.now) l.first l.initial.marks l.marks l.e × (l.e < length l.self.starts.now)

abbrev pub decreases-loop-marks : goal.decreases-loop-marks
decreases-loop-marks l = unmarked l.marks
