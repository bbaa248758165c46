-- What is in a list, and lists in which nothing stands twice.
use Rattle.std.proofs.Common.{◌≡◌, ℕ, zero, suc, ◌<◌, ◌⊎◌, List, [], ◌∷◌, ◌++◌, map, length, sym, refl, ◌∙◌, inl, inr, arith}
use Rattle.std.specs.List.{AllByRecursion}
use Rattle.drawing.specs.Lists.{at, ◌∈◌, Distinct, rotated}

pub in_left : (x : ℕ) (xs ys : List ℕ) → x ∈ xs → x ∈ (xs ++ ys)
in_left x [] ys h = absurd h
in_left x (y ∷ xs) ys (inl e) = inl e
in_left x (y ∷ xs) ys (inr h) = inr (in_left x xs ys h)

pub in_right : (x : ℕ) (xs ys : List ℕ) → x ∈ ys → x ∈ (xs ++ ys)
in_right x [] ys h = h
in_right x (y ∷ xs) ys h = inr (in_right x xs ys h)

pub in_cases : (x : ℕ) (xs ys : List ℕ) → x ∈ (xs ++ ys) → (x ∈ xs) ⊎ (x ∈ ys)
in_cases x [] ys h = inr h
in_cases x (y ∷ xs) ys (inl e) = inl (inl e)
in_cases x (y ∷ xs) ys (inr h) = elim (in_cases x xs ys h) [ inl a ↦ inl (inr a) | inr b ↦ inr b ]

pub in_one : (x y : ℕ) → x ∈ (y ∷ []) → x ≡ y
in_one x y (inl e) = e
in_one x y (inr h) = absurd h

pub in_last : (xs : List ℕ) (x : ℕ) → x ∈ (xs ++ (x ∷ []))
in_last xs x = in_right x xs (x ∷ []) (inl refl)

pub in_or_last : (xs : List ℕ) (y x : ℕ) → x ∈ (xs ++ (y ∷ [])) → (x ∈ xs) ⊎ (x ≡ y)
in_or_last xs y x h = elim (in_cases x xs (y ∷ []) h) [ inl o ↦ inl o | inr l ↦ inr (in_one x y l) ]

pub distinct_push : (xs : List ℕ) (x : ℕ) → Distinct xs → (x ∈ xs → ⊥) → Distinct (xs ++ (x ∷ []))
distinct_push [] x d n = (λ h. h, tt)
distinct_push (y ∷ xs) x d n = (
  (λ h. elim (in_cases y xs (x ∷ []) h) [ inl a ↦ d.0 a | inr b ↦ n (inl (sym (in_one y x b))) ]),
  distinct_push xs x d.1 (λ h. n (inr h)),
)

pub distinct_left : (xs ys : List ℕ) → Distinct (xs ++ ys) → Distinct xs
distinct_left [] ys d = tt
distinct_left (x ∷ xs) ys d = (λ h. d.0 (in_left x xs ys h), distinct_left xs ys d.1)

pub distinct_right : (xs ys : List ℕ) → Distinct (xs ++ ys) → Distinct ys
distinct_right [] ys d = d
distinct_right (x ∷ xs) ys d = distinct_right xs ys d.1

pub distinct_apart : (x : ℕ) (xs ys : List ℕ) → Distinct (xs ++ ys) → x ∈ xs → x ∈ ys → ⊥
distinct_apart x [] ys d h k = h
distinct_apart x (y ∷ xs) ys d (inl e) k = d.0 (in_right y xs ys (rw (sym e) k))
distinct_apart x (y ∷ xs) ys d (inr h) k = distinct_apart x xs ys d.1 h k

-- a list rotated by one has the same elements, each as often
pub in_rotated : (x : ℕ) (xs : List ℕ) → x ∈ rotated xs → x ∈ xs
in_rotated x [] h = h
in_rotated x (y ∷ xs) h = elim (in_cases x xs (y ∷ []) h) [ inl a ↦ inr a | inr b ↦ inl (in_one x y b) ]

pub in_rotated_back : (x : ℕ) (xs : List ℕ) → x ∈ xs → x ∈ rotated xs
in_rotated_back x [] h = h
in_rotated_back x (y ∷ xs) (inl e) = in_right x xs (y ∷ []) (inl e)
in_rotated_back x (y ∷ xs) (inr h) = in_left x xs (y ∷ []) h

pub rotated_distinct : (xs : List ℕ) → Distinct xs → Distinct (rotated xs)
rotated_distinct [] d = tt
rotated_distinct (x ∷ xs) d = distinct_push xs x d.1 d.0

pub in_map : (f : ℕ → ℕ) (x : ℕ) (xs : List ℕ) → x ∈ xs → f x ∈ map f xs
in_map f x [] h = h
in_map f x (y ∷ xs) (inl e) = inl (rw e refl)
in_map f x (y ∷ xs) (inr h) = inr (in_map f x xs h)

-- an image comes from an element
pub from_map : (f : ℕ → ℕ) (y : ℕ) (xs : List ℕ) → y ∈ map f xs → (x : ℕ) × (x ∈ xs) × (f x ≡ y)
from_map f y [] h = absurd h
from_map f y (x ∷ xs) (inl e) = (x, inl refl, sym e)
from_map f y (x ∷ xs) (inr h) = let b = from_map f y xs h in (b.0, inr b.1, b.2)

-- where no image stands twice, an image comes from one element
pub map_once : (f : ℕ → ℕ) (xs : List ℕ) → Distinct (map f xs) → (x y : ℕ) → x ∈ xs → y ∈ xs → f x ≡ f y → x ≡ y
map_once f [] d x y h k e = absurd h
map_once f (z ∷ xs) d x y (inl a) (inl b) e = a ∙ sym b
map_once f (z ∷ xs) d x y (inl a) (inr k) e = absurd (d.0 (rw (sym a, e) (in_map f y xs k)))
map_once f (z ∷ xs) d x y (inr h) (inl b) e = absurd (d.0 (rw (sym b, sym e) (in_map f x xs h)))
map_once f (z ∷ xs) d x y (inr h) (inr k) e = map_once f xs d.1 x y h k e

pub all_in : (P : ℕ → Type 0) (xs : List ℕ) → AllByRecursion P xs → (x : ℕ) → x ∈ xs → P x
all_in P [] a x h = absurd h
all_in P (y ∷ xs) a x (inl e) = rw e a.0
all_in P (y ∷ xs) a x (inr h) = all_in P xs a.1 x h

pub all_from_in : (P : ℕ → Type 0) (xs : List ℕ) → ((x : ℕ) → x ∈ xs → P x) → AllByRecursion P xs
all_from_in P [] f = tt
all_from_in P (y ∷ xs) f = (f y (inl refl), all_from_in P xs (λ x h. f x (inr h)))

pub in_at : (xs : List ℕ) (k : ℕ) → k < length xs → at xs k ∈ xs
in_at [] k lt = absurd (omega arith)
in_at (x ∷ xs) zero lt = inl refl
in_at (x ∷ xs) (suc k) lt = inr (in_at xs k (omega arith))
