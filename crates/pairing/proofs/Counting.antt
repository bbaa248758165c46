-- Counting below n: lists that hold every number of another, and maps that lead to different numbers or to every number.
use Rattle.std.proofs.Common.{◌≡◌, ℕ, zero, suc, ◌<◌, ◌≤◌, ◌⊎◌, List, [], ◌∷◌, map, length, sym, refl, ◌∙◌, inl, inr, arith}
use Rattle.std.proofs.lemmas.Bool.{cases_lt, cases_eq}
use Rattle.std.proofs.lemmas.List.{length-map}
use Rattle.drawing.specs.Lists.{◌∈◌, Distinct}
use Rattle.drawing.specs.Nets.{Net, edges}
use Rattle.drawing.proofs.Members.{in_map, from_map}
use Rattle.pairing.specs.Matchings.{Matching}

-- The list without one of its numbers: it is shorter by one, and the others are left.
record Without (x : ℕ) (xs : List ℕ) : Type 0 where
  rest : List ℕ
  size : length xs ≡ suc (length rest)
  others : (y : ℕ) → y ∈ xs → (y ≡ x) ⊎ (y ∈ rest)

leave_out : (x : ℕ) (xs : List ℕ) → x ∈ xs → Without x xs
leave_out x [] h = absurd h
leave_out x (y ∷ xs) (inl e) = record {
  rest = xs;
  size = refl;
  others = λ z. elim [ inl s ↦ inl (s ∙ sym e) | inr t ↦ inr t ];
}
leave_out x (y ∷ xs) (inr h) =
    let w = leave_out x xs h in
    record {
      rest = y ∷ w.rest;
      size = omega (arith, w.size);
      others = λ z. elim [ inl s ↦ inr (inl s) | inr t ↦ elim (w.others z t) [ inl s ↦ inl s | inr u ↦ inr (inr u) ] ];
    }

-- Distinct numbers that are all in a list are no more than it has.
pub fits : (xs ys : List ℕ) → Distinct xs → ((x : ℕ) → x ∈ xs → x ∈ ys) → length xs ≤ length ys
fits [] ys d inside = omega arith
fits (x ∷ xs) ys d inside =
    let w = leave_out x ys (inside x (inl refl)) in
    let left : (y : ℕ) → y ∈ xs → y ∈ w.rest = λ y h. elim (w.others y (inside y (inr h))) [ inl s ↦ absurd (d.0 (rw s at h)) | inr t ↦ t ] in
    omega (arith, fits xs w.rest d.1 left, w.size)

-- images of distinct numbers under a map that leads them to different numbers
pub map_distinct : (f : ℕ → ℕ) (xs : List ℕ) → Distinct xs → ((x y : ℕ) → x ∈ xs → y ∈ xs → f x ≡ f y → x ≡ y) → Distinct (map f xs)
map_distinct f [] d once = tt
map_distinct f (x ∷ xs) d once = (
  (λ h. let b = from_map f (f x) xs h in d.0 (rw (once b.0 x (inr b.1) (inl refl) b.2) at b.1)),
  map_distinct f xs d.1 (λ y z h k. once y z (inr h) (inr k)),
)

-- ---- maps from one list to another
-- into the other list, and to different numbers
pub sent_fits : (f : ℕ → ℕ) (xs ys : List ℕ) → Distinct xs → ((x : ℕ) → x ∈ xs → f x ∈ ys) → ((x y : ℕ) → x ∈ xs → y ∈ xs → f x ≡ f y → x ≡ y) → length xs ≤ length ys
sent_fits f xs ys d into once =
    let inside : (y : ℕ) → y ∈ map f xs → y ∈ ys = λ y h. let b = from_map f y xs h in rw (← b.2) (into b.0 b.1) in
    omega (arith, fits (map f xs) ys (map_distinct f xs d once) inside, length-map xs f)

-- to every number of the other list
pub covers : (f : ℕ → ℕ) (xs ys : List ℕ) → Distinct ys → ((y : ℕ) → y ∈ ys → (x : ℕ) × (x ∈ xs) × (f x ≡ y)) → length ys ≤ length xs
covers f xs ys d onto =
    let met : (y : ℕ) → y ∈ ys → y ∈ map f xs = λ y h. let b = onto y h in rw (← b.2) (in_map f b.0 xs b.1) in
    omega (arith, fits ys (map f xs) d met, length-map xs f)

-- what is met from a list is met still without one of two numbers that have one image
met_still : (f : ℕ → ℕ) (xs : List ℕ) (d e : ℕ) (w : Without d xs) → e ∈ xs → (d ≡ e → ⊥) → f d ≡ f e → (g : ℕ) → (k : ℕ) × (k ∈ xs) × (f k ≡ g) → (k : ℕ) × (k ∈ w.rest) × (f k ≡ g)
met_still f xs d e w he two same g b =
    let other : e ∈ w.rest = elim (w.others e he) [ inl s ↦ absurd (two (sym s)) | inr t ↦ t ] in
    elim (w.others b.0 b.1) [ inl s ↦ (e, other, sym same ∙ (rw s at b.2)) | inr t ↦ (b.0, t, b.2) ]

-- ---- the numbers below n
abbrev below : ℕ → List ℕ
below zero = []
below (suc n) = n ∷ below n

below_size : (n : ℕ) → length (below n) ≡ n
below_size zero = refl
below_size (suc n) = omega (arith, below_size n)

in_below : (n k : ℕ) → k < n → k ∈ below n
in_below zero k lt = absurd (omega arith)
in_below (suc n) k lt = elim (cases_lt k n) [ inl less ↦ inr (in_below n k less) | inr last ↦ inl (omega arith) ]

from_below : (n k : ℕ) → k ∈ below n → k < n
from_below zero k h = absurd h
from_below (suc n) k (inl e) = omega arith
from_below (suc n) k (inr h) = omega (arith, from_below n k h)

below_distinct : (n : ℕ) → Distinct (below n)
below_distinct zero = tt
below_distinct (suc n) = ((λ h. omega (arith, from_below n n h)), below_distinct n)

met_below : (m n : ℕ) (f : ℕ → ℕ) → ((g : ℕ) → g < n → (e : ℕ) × (e < m) × (f e ≡ g)) → (g : ℕ) → g ∈ below n → (e : ℕ) × (e ∈ below m) × (f e ≡ g)
met_below m n f onto g h = let b = onto g (from_below n g h) in (b.0, in_below m b.0 b.1, b.2)

-- ---- what is counted
-- distinct numbers below n
pub distinct_fits : (n : ℕ) (xs : List ℕ) → Distinct xs → ((x : ℕ) → x ∈ xs → x < n) → length xs ≤ n
distinct_fits n xs d under = omega (arith, fits xs (below n) d (λ x h. in_below n x (under x h)), below_size n)

-- a map to different numbers
pub no_crowd : (m n : ℕ) (f : ℕ → ℕ) → ((e : ℕ) → e < m → f e < n) → ((d e : ℕ) → d < m → e < m → f d ≡ f e → d ≡ e) → m ≤ n
no_crowd m n f within once =
    let into : (e : ℕ) → e ∈ below m → f e ∈ below n = λ e h. in_below n (f e) (within e (from_below m e h)) in
    omega (arith, sent_fits f (below m) (below n) (below_distinct m) into (λ d e h k. once d e (from_below m d h) (from_below m e k)), below_size m, below_size n)

-- a map to every number
pub no_lack : (m n : ℕ) (f : ℕ → ℕ) → ((g : ℕ) → g < n → (e : ℕ) × (e < m) × (f e ≡ g)) → n ≤ m
no_lack m n f onto = omega (arith, covers f (below m) (below n) (below_distinct n) (met_below m n f onto), below_size m, below_size n)

-- a map to every number leads to none twice: else one of two could be left out
pub onto_once : (n : ℕ) (f : ℕ → ℕ) → ((e : ℕ) → e < n → f e < n) → ((g : ℕ) → g < n → (e : ℕ) × (e < n) × (f e ≡ g)) → (d e : ℕ) → d < n → e < n → f d ≡ f e → d ≡ e
onto_once n f within onto d e ld le same =
    elim (cases_eq d e) [
      | inl one ↦ one
      | inr two ↦
          let w = leave_out d (below n) (in_below n d ld) in
          let still = λ (g : ℕ) (h : g ∈ below n). met_still f (below n) d e w (in_below n e le) two same g (met_below n n f onto g h) in
          absurd (omega (arith, covers f w.rest (below n) (below_distinct n) still, w.size))
    ]

-- matched blocks have equally many edges
pub matched_count : (a b : Net) (f : ℕ → ℕ) → Matching a b f → edges a ≡ edges b
matched_count a b f m =
    let back = no_lack (edges a) (edges b) f (λ g lt. let k = m.onto g lt in (k.edge, k.within, k.image)) in
    omega (arith, no_crowd (edges a) (edges b) f m.within m.once, back)
