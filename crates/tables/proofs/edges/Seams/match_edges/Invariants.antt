use Rattle.std.proofs.Common.{◌≡◌, ℕ, ◌<◌, length}
use Rattle.drawing.specs.Lists.{at}
use Rattle.tables.specs.Pairs.{Tallied, Faces}
use Rattle.tables.proofs.edges.Seams.match_edges.Given as goal

abbrev pub invariant-loop-e : goal.invariant-loop-e
invariant-loop-e l = Tallied l.self.starts.now l.self.next.now l.e l.table

abbrev pub invariant-loop-edge : goal.invariant-loop-edge
invariant-loop-edge l = (length l.opposite.items ≡ l.edge) × ((k : ℕ) → k < l.edge → Faces l.self.starts.now l.self.next.now k (at l.opposite.items k))
