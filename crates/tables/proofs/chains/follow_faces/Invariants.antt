use Rattle.std.proofs.Common.{ℕ, ◌<◌, take}
use Rattle.drawing.specs.Verdicts.{Followed}
use Rattle.tables.specs.Walks.{WalkedAll}
use Rattle.tables.proofs.chains.follow_faces.Given as goal

abbrev pub invariant-loop-k : goal.invariant-loop-k
invariant-loop-k l = WalkedAll l.corners (take l.k l.faces) l.walk × ((j : ℕ) → j < l.k → Followed l.corners l.faces j)
