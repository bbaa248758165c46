-- A mark is set, the others stay.
use Rattle.std.proofs.Common.{◌≡◌, ℕ, zero, suc, ◌+◌, ◌<◌, Bool, true, false, ◌⊎◌, List, [], ◌∷◌, length, set, replicate, refl, inl, inr, le_of_suc-le-suc, arith, get_or-set_other, get_or-set_same}
use Rattle.std.proofs.lemmas.List.{get_or_past}
use Rattle.std.proofs.lemmas.Bool.{cases_eq, cases_lt, both_ways}
use Rattle.tables.specs.Marked.{mark, unmarked}

pub none_marked : (n k : ℕ) → mark (replicate n false) k ≡ false
none_marked zero k = refl
none_marked (suc n) zero = refl
none_marked (suc n) (suc k) = none_marked n k

pub marked_within : (ms : List Bool) (k : ℕ) → mark ms k ≡ true → k < length ms
marked_within ms k h = elim (cases_lt k (length ms)) [ inl l ↦ l | inr g ↦ absurd (both_ways _ (get_or_past ms k false g) h) ]

pub marked_here : (ms : List Bool) (i : ℕ) → i < length ms → mark (set ms i true) i ≡ true
marked_here ms i h = get_or-set_same ms i true false h

pub marked_stays : (ms : List Bool) (i k : ℕ) → mark ms k ≡ true → mark (set ms i true) k ≡ true
marked_stays ms i k h =
    elim (cases_eq k i) [ inl e ↦ let l = marked_within ms k h in rw e (get_or-set_same ms i true false (rw e at l)) | inr ne ↦ rw get_or-set_other h ]

-- What is marked now was marked, or is the one whose mark was set.
pub marked_cases : (ms : List Bool) (i k : ℕ) → mark (set ms i true) k ≡ true → (k ≡ i) ⊎ (mark ms k ≡ true)
marked_cases ms i k h = elim (cases_eq k i) [ inl e ↦ inl e | inr ne ↦ inr (rw get_or-set_other at h) ]

-- One mark more leaves one fewer without.
pub unmarked_fewer : (ms : List Bool) (i : ℕ) → i < length ms → mark ms i ≡ false → unmarked (set ms i true) + 1 ≡ unmarked ms
unmarked_fewer [] i h e = omega arith
unmarked_fewer (m ∷ ms) zero h e = rw e (omega arith)
unmarked_fewer (m ∷ ms) (suc i) h e = omega (arith, unmarked_fewer ms i (le_of_suc-le-suc h) e)
