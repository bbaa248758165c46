-- What a walk along the chains keeps: the corners that it has met, in order, and the home of each of them.
use Rattle.std.specs.Prelude.{◌≡◌, ℕ, ◌+◌, ◌<◌, List, [], ◌∷◌, length, sum_by, slice_index_or, Option, None, Some, IsSome}
use Rattle.std.specs.Option.{IsNone}
use Rattle.std.specs.Coded.{×_prop, →_prop, Unit-prop}
use Rattle.drawing.specs.Lists.{at, ◌∈◌, Distinct}

-- the home of a corner, if it was met
abbrev pub home_of : List (Option ℕ) → ℕ → Option ℕ
home_of home k = slice_index_or home k None

-- 1 where a corner has no home yet, else 0
abbrev pub lacks : Option ℕ → ℕ
lacks None = 1
lacks (Some h) = 0

-- how many corners have none
abbrev pub unmet : List (Option ℕ) → ℕ
unmet home = sum_by lacks home

-- Just the corners that were met have a home, and there is room for the others.
pub record Steady (order : List ℕ) (home : List (Option ℕ)) : Type 0 where
  pub size : length home ≡ 480
  pub housed : (k : ℕ) → k ∈ order → IsSome (home_of home k)
  pub fresh : (k : ℕ) → (k ∈ order → ⊥) → IsNone (home_of home k)
  pub room : length order + unmet home ≡ 480

-- there is one proof at the most that nothing is in a list twice
pub Distinct-prop : (xs : List ℕ) → IsProp (Distinct xs)
Distinct-prop [] = Unit-prop
Distinct-prop (x ∷ xs) = ×_prop (→_prop (λ a b. absurd a)) (Distinct-prop xs)

-- Each of the first n corners was met, and these are their homes.
pub record Housed (n : ℕ) (home : List (Option ℕ)) (homes : List ℕ) : Type 0 where
  pub size : length homes ≡ n
  pub each : (k : ℕ) → k < n → home_of home k ≡ Some (at homes k)
