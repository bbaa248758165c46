-- What a waiting list holds.
use Rattle.std.specs.Prelude.{ℕ, List}

-- The items that wait, the last in last, and how many can wait at the most.
pub record Held (T : Type 0) : Type 0 where
  pub items : List T
  pub slots : ℕ
