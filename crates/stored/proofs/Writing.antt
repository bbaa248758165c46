-- One record more is written to an edge table.
use Rattle.std.proofs.Common.{◌≡◌, ℕ, ◌+◌, ◌<◌, ◌≤◌, ◌≢◌, List, length, get_or, take, set, ap, ◌∙◌, inl, inr, arith, length-set, get_or-set_other, get_or-set_same}
use Rattle.std.proofs.lemmas.List.{take-set-le}
use Rattle.std.proofs.lemmas.Bool.{cases_eq}

-- The table `before`, as it is after some writes from `start` on, and after one more at e.
module _ {X : Type 0} (start e : ℕ) (before now after : List X) (x : X) (is : after ≡ set now (start + e) x) where
  pub size_kept : length now ≡ length before → length after ≡ length before
  size_kept h = ap length is ∙ (length-set now (start + e) x ∙ h)

  -- the first places stay
  pub front_kept : take start now ≡ take start before → take start after ≡ take start before
  front_kept h = ap (take start) is ∙ (take-set-le start now (start + e) x (omega arith) ∙ h)

  -- what holds of each place from `start` on below e, and of what is written, holds of each below e + 1
  pub written_more : (P : ℕ → X → Type 0) (d : X) → start + e < length now → ((k : ℕ) → k < e → P k (get_or now (start + k) d)) → P e x → (k : ℕ) → k < e + 1 → P k (get_or after (start + k) d)
  written_more P d lt old new k lt' = elim (cases_eq k e) [
    | inl eq ↦ rw (is, eq, get_or-set_same now (start + e) x d lt) new
    | inr ne ↦ let ne' : start + k ≢ start + e = λ q. ne (omega arith) in rw (is, get_or-set_other now (start + e) (start + k) x d ne') (old k (omega (arith, ne)))
  ]

  -- what is not yet written is as before
  pub unwritten_more : (d : X) → ((k : ℕ) → e ≤ k → get_or now (start + k) d ≡ get_or before (start + k) d) → (k : ℕ) → e + 1 ≤ k → get_or after (start + k) d ≡ get_or before (start + k) d
  unwritten_more d old k le =
      let ne : start + k ≢ start + e = λ q. omega arith in
      ap (λ xs. get_or xs (start + k) d) is ∙ (get_or-set_other now (start + e) (start + k) x d ne ∙ old k (omega arith))
