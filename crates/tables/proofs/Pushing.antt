-- A list that is filled item by item.
use Rattle.std.proofs.Common.{◌≡◌, ℕ, ◌+◌, ◌<◌, List, [], ◌∷◌, ◌++◌, length, get_or, below_more}
use Rattle.std.proofs.lemmas.List.{get_or_append_left, get_or_push}

-- What holds of each item, by its index, and of one more, holds of each when that is pushed.
pub each_pushed : {A : Type 0} (d : A) (P : ℕ → A → Type 0) (xs : List A) (n : ℕ) (x : A) → length xs ≡ n
    → ((k : ℕ) → k < n → P k (get_or xs k d)) → P n x → (k : ℕ) → k < n + 1 → P k (get_or (xs ++ (x ∷ [])) k d)
each_pushed {A} d P xs n x size each here =
    below_more _ _
    (λ k lt. let le : k < length xs = rw size lt in rw (get_or_append_left xs (x ∷ []) d k le) (each k lt))
    (rw (get_or_push xs x d n size) here)
