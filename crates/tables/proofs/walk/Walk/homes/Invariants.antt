use Rattle.std.proofs.Common.{◌≡◌, ℕ, ◌<◌, Some, length}
use Rattle.drawing.specs.Lists.{at}
use Rattle.tables.specs.Steps.{home_of}
use Rattle.tables.proofs.walk.Walk.homes.Given as goal

abbrev pub invariant-loop-home : goal.invariant-loop-home
invariant-loop-home l = (length l.homes.items ≡ l.home-index) × ((k : ℕ) → k < l.home-index → home_of l.self.home k ≡ Some (at l.homes.items k))
