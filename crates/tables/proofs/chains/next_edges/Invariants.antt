use Rattle.std.proofs.Common.{◌≡◌, ℕ, ◌<◌, length}
use Rattle.drawing.specs.Lists.{at}
use Rattle.tables.specs.Walks.{next_of}
use Rattle.tables.proofs.chains.next_edges.Given as goal

abbrev pub invariant-loop-k : goal.invariant-loop-k
invariant-loop-k l = (length l.next.items ≡ l.k) × ((j : ℕ) → j < l.k → at l.next.items j ≡ next_of l.corners l.home j)
