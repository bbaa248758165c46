-- Marks on records, one for each.
use Rattle.std.specs.Prelude.{◌≡◌, ℕ, ◌+◌, ◌<◌, Bool, true, false, cond, List, [], ◌∷◌, length, slice_index_or}

-- the mark of the record at an index
abbrev pub mark : List Bool → ℕ → Bool
mark marks k = slice_index_or marks k false

-- Just those of n records are marked of which P holds.
pub record Marks (n : ℕ) (P : ℕ → Type 0) (marks : List Bool) : Type 0 where
  pub size : length marks ≡ n
  pub marked : (k : ℕ) → mark marks k ≡ true → P k
  pub unmarked : (k : ℕ) → k < n → mark marks k ≡ false → P k → ⊥

-- how many have no mark
abbrev pub unmarked : List Bool → ℕ
unmarked [] = 0
unmarked (m ∷ ms) = cond m 0 1 + unmarked ms
