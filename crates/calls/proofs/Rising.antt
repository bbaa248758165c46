-- Rising lists, and how far one was gone through.
use Rattle.std.proofs.Common.{◌≡◌, ℕ, zero, suc, ◌+◌, ◌<◌, ◌≤◌, List, [], ◌∷◌, length, sym, inl, inr, arith}
use Rattle.std.proofs.lemmas.Bool.{cases_lt, cases_order}
use Rattle.drawing.specs.Lists.{at, ◌∈◌}
use Rattle.drawing.proofs.Members.{all_in, in_at}
use Rattle.pairing.specs.Ways.{Rising}

-- The number x stands at this place of the list.
pub record Stands (xs : List ℕ) (x : ℕ) : Type 0 where
  pub place : ℕ
  pub within : place < length xs
  pub is : at xs place ≡ x

pub place_of : (xs : List ℕ) (x : ℕ) → x ∈ xs → Stands xs x
place_of [] x h = absurd h
place_of (y ∷ xs) x (inl e) = record { place = 0; within = omega arith; is = sym e }
place_of (y ∷ xs) x (inr h) = let s = place_of xs x h in record { place = suc s.place; within = omega arith; is = s.is }

pub rising_at : (xs : List ℕ) → Rising xs → (m n : ℕ) → m < n → n < length xs → at xs m < at xs n
rising_at [] r m n lt within = absurd (omega arith)
rising_at (x ∷ xs) r m zero lt within = absurd (omega arith)
rising_at (x ∷ xs) r zero (suc n) lt within = all_in (λ y. x < y) xs r.0 (at xs n) (in_at xs n (omega arith))
rising_at (x ∷ xs) r (suc m) (suc n) lt within = rising_at xs r.1 m n (omega arith) (omega arith)

-- The first n of the list are those below a bound.
pub record Split (xs : List ℕ) (n bound : ℕ) : Type 0 where
  pub within : n ≤ length xs
  pub below : (m : ℕ) → m < n → at xs m < bound
  pub above : (m : ℕ) → n ≤ m → m < length xs → bound ≤ at xs m

pub split_none : (xs : List ℕ) → Split xs 0 0
split_none xs = record { within = omega arith; below = λ m lt. absurd (omega arith); above = λ m le lt. omega arith }

module _ (xs : List ℕ) (n bound : ℕ) (split : Split xs n bound) where
  -- nothing is left at the bound or beyond it
  pub split_all : ((x : ℕ) → x ∈ xs → bound ≤ x → ⊥) → n ≡ length xs
  split_all none = elim (cases_lt n (length xs)) [
    | inl lt ↦ absurd (none (at xs n) (in_at xs n lt) (split.above n (omega arith) lt))
    | inr le ↦ omega (arith, split.within)
  ]

  module _ (rising : Rising xs) (x : ℕ) (in_xs : x ∈ xs) (far : bound ≤ x) (lowest : (y : ℕ) → y ∈ xs → bound ≤ y → y < x → ⊥) where
    -- the lowest at the bound or beyond it stands next
    next_place : (s : Stands xs x) → s.place ≡ n
    next_place s = elim (cases_order s.place n) [
      | inl e ↦ e
      | inr (inl lt) ↦ absurd (omega (arith, split.below s.place lt, s.is))
      | inr (inr gt) ↦
          let here : n < length xs = omega (arith, s.within) in
          absurd (lowest (at xs n) (in_at xs n here) (split.above n (omega arith) here) (omega (arith, rising_at xs rising n s.place gt s.within, s.is)))
    ]

    pub next_within : n < length xs
    next_within = let s = place_of xs x in_xs in omega (arith, next_place s, s.within)

    pub next_is : at xs n ≡ x
    next_is = let s = place_of xs x in_xs in rw (next_place s) at s.is

    pub split_next : Split xs (n + 1) (x + 1)
    split_next = record {
      within = omega (arith, next_within);
      below = λ m lt. elim (cases_order m n) [
        | inl e ↦ rw e (omega (arith, next_is))
        | inr (inl l) ↦ omega (arith, rising_at xs rising m n l next_within, next_is)
        | inr (inr g) ↦ absurd (omega arith)
      ];
      above = λ m le lt. omega (arith, rising_at xs rising n m (omega arith) lt, next_is);
    }
