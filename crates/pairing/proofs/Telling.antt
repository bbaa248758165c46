-- What can be told, yes or no: of two facts together, and of all numbers below n if of each.
use Rattle.std.proofs.Common.{◌≡◌, ℕ, zero, suc, ◌<◌, Bool, true, false, T, ◌⊎◌, inl, inr, arith}
use Rattle.std.proofs.lemmas.Bool.{cases_lt}

abbrev pub Told : Type 0 → Type 0
Told P = P ⊎ (P → ⊥)

pub told_both : {P Q : Type 0} → Told P → Told Q → Told (P × Q)
told_both (inl p) (inl q) = inl (p, q)
told_both (inl p) (inr k) = inr (λ h. k h.1)
told_both (inr k) q = inr (λ h. k h.0)

pub told_implied : {P Q : Type 0} → Told P → Told Q → Told (P → Q)
told_implied (inl p) (inl q) = inl (λ h. q)
told_implied (inl p) (inr k) = inr (λ f. k (f p))
told_implied (inr k) q = inl (λ p. absurd (k p))

-- what is told of P is told of all that P amounts to
pub told_as : {P Q : Type 0} → (P → Q) → (Q → P) → Told P → Told Q
told_as to from (inl p) = inl (to p)
told_as to from (inr k) = inr (λ q. k (from q))

pub told_below : (k n : ℕ) → Told (k < n)
told_below k n = elim (cases_lt k n) [ inl lt ↦ inl lt | inr ge ↦ inr (λ lt. omega arith) ]

pub told_true : (t : Bool) → Told (T t)
told_true true = inl tt
told_true false = inr (λ h. h)

module _ (P : ℕ → Type 0) where
  here_or_below : (n : ℕ) → P n → ((k : ℕ) → k < n → P k) → (k : ℕ) → k < suc n → P k
  here_or_below n here less k lt = elim (cases_lt k n) [ inl under ↦ less k under | inr last ↦ let is : k ≡ n = omega arith in rw is here ]

module _ (P : ℕ → Type 0) (told : (k : ℕ) → Told (P k)) where
  -- all below n have the property, or not all
  pub all_below : (n : ℕ) → Told ((k : ℕ) → k < n → P k)
  all_below zero = inl (λ k lt. absurd (omega arith))
  all_below (suc n) =
      told_as (λ both. here_or_below P n both.0 both.1) (λ all. (all n (omega arith), λ k lt. all k (omega arith))) (told_both (told n) (all_below n))

  -- some number below n has the property, or none has
  pub some_below : (n : ℕ) → ((k : ℕ) × (k < n) × P k) ⊎ ((k : ℕ) → k < n → P k → ⊥)
  some_below zero = inr (λ k lt p. omega arith)
  some_below (suc n) =
      elim (told n) [
        | inl here ↦ inl (n, omega arith, here)
        | inr no-here ↦
            elim (some_below n) [
              | inl found ↦ inl (found.0, omega (arith, found.1), found.2)
              | inr nowhere ↦ inr (here_or_below (λ k. P k → ⊥) n no-here nowhere)
            ]
      ]
