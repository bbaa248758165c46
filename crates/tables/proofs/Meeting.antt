-- A walk that meets one corner more.
use Rattle.std.proofs.Common.{◌≡◌, ℕ, zero, suc, ◌+◌, ◌<◌, List, [], ◌∷◌, ◌++◌, length, Option, None, Some, set, replicate, refl, ◌∙◌, ◌⊎◌, inl, inr, arith, length-set, get_or-set_other, get_or-set_same}
use Rattle.std.specs.Option.{IsSome}
use Rattle.std.proofs.lemmas.List.{length-replicate, length_push}
use Rattle.std.proofs.lemmas.List.Sums.{sum_by-set}
use Rattle.std.proofs.lemmas.Bool.{cases_eq, false≢true, both_ways}
use Rattle.drawing.specs.Lists.{◌∈◌, Distinct}
use Rattle.drawing.proofs.Members.{in_left, in_right, in_cases, in_one, distinct_push}
use Rattle.tables.specs.Steps.{home_of, lacks, unmet, Steady}

in_or_not : (k : ℕ) (xs : List ℕ) → (k ∈ xs) ⊎ (k ∈ xs → ⊥)
in_or_not k [] = inr (λ m. m)
in_or_not k (x ∷ xs) =
    elim (cases_eq k x) [
      | inl e ↦ inl (inl e)
      | inr ne ↦ elim (in_or_not k xs) [ inl m ↦ inl (inr m) | inr out ↦ inr (λ m. elim m [ inl e ↦ ne e | inr h ↦ out h ]) ]
    ]

-- a corner that has a home was met
pub seen : (order : List ℕ) (home : List (Option ℕ)) → Steady order home → (k : ℕ) → IsSome (home_of home k) → k ∈ order
seen order home s k some = elim (in_or_not k order) [ inl m ↦ m | inr out ↦ absurd (both_ways _ (s.fresh k out) some) ]

module _ (order : List ℕ) (home : List (Option ℕ)) (k h : ℕ) (s : Steady order home) (lt : k < 480) (free : home_of home k ≡ None) where
  in_home : k < length home
  in_home = omega (arith, s.size)

  pub fewer : unmet (set home k (Some h)) + 1 ≡ unmet home
  fewer = let e = rw free at (sum_by-set lacks home k (Some h) None in_home) in omega arith

  new : k ∈ order → ⊥
  new m = false≢true (rw free at (s.housed k m))

  pub apart_more : Distinct order → Distinct (order ++ (k ∷ []))
  apart_more d = distinct_push order k d new

  pub steady_more : Steady (order ++ (k ∷ [])) (set home k (Some h))
  steady_more = record {
    size = length-set home k (Some h) ∙ s.size;
    fresh = λ j out.
        let ne : j ≡ k → ⊥ = λ e. out (in_right j order (k ∷ []) (inl e)) in
        rw (get_or-set_other home k j (Some h) None ne) (s.fresh j (λ m. out (in_left j order (k ∷ []) m)));
    housed = λ j m. elim (in_cases j order (k ∷ []) m) [
      | inl a ↦ let ne : j ≡ k → ⊥ = λ e. new (rw e at a) in rw (get_or-set_other home k j (Some h) None ne) (s.housed j a)
      | inr b ↦ rw (in_one j k b, get_or-set_same home k (Some h) None in_home) refl
    ];
    room = omega (arith, fewer, s.room, length_push order k);
  }

pub steady_none : Steady [] (replicate 480 None)
steady_none = record {
  size = length-replicate {A = Option ℕ} 480 None;
  housed = λ k m. absurd m;
  fresh = λ k out. rw (none 480 k) refl;
  room = refl;
}
  where
    none : (n k : ℕ) → home_of (replicate n None) k ≡ None
    none zero k = refl
    none (suc n) zero = refl
    none (suc n) (suc k) = none n k
