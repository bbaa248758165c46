-- What a table keeps that is changed only beyond its first places.
use Rattle.std.proofs.Common.{◌≡◌, ℕ, ◌<◌, ◌≤◌, List, get_or, take, drop, sym, ap, ◌∙◌}
use Rattle.std.specs.List.{between}
use Rattle.std.proofs.lemmas.List.{get_or-take, take-take}
use Rattle.std.proofs.lemmas.Slice.{between_is}

module _ {X : Type 0} (n : ℕ) (xs ys : List X) (kept : take n ys ≡ take n xs) where
  pub kept_at : (k : ℕ) (d : X) → k < n → get_or ys k d ≡ get_or xs k d
  kept_at k d h = sym (get_or-take n ys k d h) ∙ (ap (λ zs. get_or zs k d) kept ∙ get_or-take n xs k d h)

  pub kept_between : (i j : ℕ) → j ≤ n → between i j ys ≡ between i j xs
  kept_between i j h =
      between_is ys i j
      ∙ (ap (drop i) (sym (take-take j n ys h) ∙ (ap (take j) kept ∙ take-take j n xs h)) ∙ sym (between_is xs i j))
