use Rattle.tables.proofs.Turning.{Begun}
use Rattle.tables.proofs.edges.Edges.turned.Given as goal

abbrev pub invariant-loop-e : goal.invariant-loop-e
invariant-loop-e l = Begun l.self.starts.now l.self.next.now l.self.opposite.now l.e l.begun l.marks
