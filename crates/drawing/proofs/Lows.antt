-- The lowest record of which something holds.
use Rattle.std.proofs.Common.{◌≡◌, ℕ, zero, suc, ◌+◌, ◌<◌, ◌≤◌, sym, refl, ◌∙◌, inl, inr, arith}
use Rattle.std.proofs.lemmas.Bool.{cases_eq, cases_order}
use Rattle.drawing.specs.Lowest.{Lowest}

-- there is at most one
pub lowest_once : (n : ℕ) (P : ℕ → Type 0) (p q : ℕ) → Lowest n P p → Lowest n P q → p ≡ q
lowest_once n P p q a b =
    elim (cases_order a.index b.index) [
      | inl e ↦ a.place_is ∙ (rw e (sym b.place_is))
      | inr h ↦ elim h [
        | inl lt ↦ absurd (b.below a.index lt a.holds)
        | inr gt ↦ absurd (a.below b.index gt b.holds)
      ]
    ]

-- where there is none, it holds of no record
pub none_lowest : (n : ℕ) (P : ℕ → Type 0) → ((p : ℕ) → Lowest n P p → ⊥) → (k : ℕ) → k < n → P k → ⊥
none_lowest n P out k lt = upto n (omega arith) k lt
  where
    upto : (m : ℕ) → m ≤ n → (k : ℕ) → k < m → P k → ⊥
    upto zero le k lt p = omega arith
    upto (suc m) le k lt p =
        elim (cases_eq k m) [
          | inl e ↦ out (m + 1) (record { index = m; place_is = refl; within = omega arith; holds = rw (sym e) p; below = upto m (omega arith) })
          | inr ne ↦ upto m (omega arith) k (omega arith) p
        ]

-- where it holds of none, there is no lowest
pub no_lowest : (n : ℕ) (P : ℕ → Type 0) → ((k : ℕ) → k < n → P k → ⊥) → (p : ℕ) → Lowest n P p → ⊥
no_lowest n P out p l = out l.index l.within l.holds
