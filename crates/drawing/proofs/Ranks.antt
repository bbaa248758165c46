-- Checks that are made in the order of their ranks, and the first that fails.
use Rattle.std.proofs.Common.{◌≡◌, ℕ, ◌+◌, ◌<◌, sym, subst, inl, inr, arith}
use Rattle.std.proofs.lemmas.Bool.{cases_eq, cases_order}

-- the checks of lower rank fail at no place
abbrev pub Below : {C : Type 0} → (C → ℕ) → (C → ℕ → Type 0) → ℕ → Type 0
Below {C} rank Fails n = (x : C) → rank x < n → (p : ℕ) → Fails x p → ⊥

module _ {C : Type 0} (rank : C → ℕ) (Fails : C → ℕ → Type 0) (rank_once : (x y : C) → rank x ≡ rank y → x ≡ y) where
  pub below_more : (x : C) → Below rank Fails (rank x) → ((p : ℕ) → Fails x p → ⊥) → Below rank Fails (rank x + 1)
  below_more x below passes y lt =
      elim (cases_eq (rank y) (rank x)) [
        | inl e ↦ subst (λ (z : C). (p : ℕ) → Fails z p → ⊥) (sym (rank_once y x e)) passes
        | inr ne ↦ below y (omega arith)
      ]

  -- there is one first check that fails, and it does so at one place
  pub first_once : (x y : C) (p q : ℕ) → Below rank Fails (rank x) → Fails x p → Below rank Fails (rank y) → Fails y q
      → ((p q : ℕ) → Fails x p → Fails x q → p ≡ q) → (x ≡ y) × (p ≡ q)
  first_once x y p q before f before' g place_once =
      elim (cases_order (rank x) (rank y)) [
        | inl e ↦ let same = rank_once x y e in (same, place_once p q f (subst (λ (z : C). Fails z q) (sym same) g))
        | inr h ↦ elim h [ inl lt ↦ absurd (before' x lt p f) | inr gt ↦ absurd (before y gt q g) ]
      ]
