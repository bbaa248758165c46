-- The lowest record of which something holds, and the answer of a check that looks for it.
use Rattle.std.specs.Prelude.{◌≡◌, ℕ, ◌+◌, ◌<◌, Option, None, Some, Result, Ok, Err, MatchResult}
use Rattle.drawing.specs.declared.fault.Located.{Located}

-- `place` is the number of the lowest of n records of which P holds.
pub record Lowest (n : ℕ) (P : ℕ → Type 0) (place : ℕ) : Type 0 where
  pub index : ℕ
  pub place_is : place ≡ index + 1
  pub within : index < n
  pub holds : P index
  pub below : (k : ℕ) → k < index → P k → ⊥

-- A refusal for this cause, at the lowest of n records that is bad.
pub record RefusedAt {C : Type 0} (c : C) (n : ℕ) (Bad : ℕ → Type 0) (f : Located C) : Type 0 where
  pub cause_is : f.cause ≡ c
  pub lowest : Lowest n Bad f.place

-- The answer of a check over n records: each is good, or the lowest bad one is refused.
abbrev pub Judges : {X C : Type 0} → C → ℕ → (Good Bad : ℕ → Type 0) → Result X (Located C) → Type 0
Judges c n Good Bad r = MatchResult r (λ _. (k : ℕ) → k < n → Good k) (RefusedAt c n Bad)

-- The refusal of the record at an index, if there is one.
abbrev pub refusal : {C : Type 0} → C → Option ℕ → Result (Unit {0}) (Located C)
refusal c None = Ok tt
refusal c (Some k) = Err (record { cause = c; place = k + 1 })
