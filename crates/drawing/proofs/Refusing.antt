-- From the first of n records that is bad, as `position` finds it, to the answer of a check.
use Rattle.std.proofs.Common.{◌≡◌, ℕ, ◌+◌, ◌<◌, Bool, true, false, List, length, get_or, Option, None, Some, Result, Err, MatchOption, refl, ◌∙◌, subst, arith}
use Rattle.std.specs.declared.ops.Range.{Range}
use Rattle.std.specs.Fn.{Called}
use Rattle.std.specs.Iterator.{FindsPosition}
use Rattle.std.specs.List.{AllWithin, HoldsAt, range_with_len}
use Rattle.std.proofs.iter.Yields.{nat_range_steps}
use Rattle.std.proofs.lemmas.Iterator.{YieldsList-from_range, IsFirst-from_position}
use Rattle.std.proofs.lemmas.List.FromFn.{length-range_with_len, get_or-range_with_len}
use denote.Param.Members.{Mut}
use Rattle.drawing.specs.declared.fault.Located.{Located}
use Rattle.drawing.specs.Lowest.{RefusedAt, Judges, refusal}

-- `index` is that of the first bad record; or there is none, and each is good.
pub judges_first : {C : Type 0} (c : C) (n : ℕ) (Good Bad : ℕ → Type 0) (index : Option ℕ) (r : Result (Unit {0}) (Located C))
    → r ≡ refusal c index
    → MatchOption index ((k : ℕ) → k < n → Good k) (λ i. (i < n) × Bad i × ((k : ℕ) → k < i → Bad k → ⊥))
    → Judges c n Good Bad r
judges_first c n Good Bad None r e each = rw e each
judges_first c n Good Bad (Some i) r e first =
    rw e (record { cause_is = refl; lowest = record { index = i; place_is = refl; within = first.0; holds = first.1; below = first.2 } })

-- The error of a step that fails at the record i, the first that is bad.
pub refused_here : {C T : Type 0} (c : C) (n i : ℕ) (Bad : ℕ → Type 0) (f : Located C)
    → ◌≡◌ {A = Result T (Located C)} (Err f) (Err (record { cause = c; place = i + 1 }))
    → i < n → Bad i → ((k : ℕ) → k < i → Bad k → ⊥) → RefusedAt c n Bad f
refused_here {C} c n i Bad f e within bad below =
    let same : f ≡ record { cause = c; place = i + 1 } = cc in
    rw same (record { cause_is = refl; lowest = record { index = i; place_is = refl; within = within; holds = bad; below = below } })

module _ {C : Type 0} (cause : C) (n : ℕ) (Good Bad : ℕ → Type 0) (apart : (k : ℕ) → Good k → Bad k → ⊥) where
  -- `index` is that of the first bad record, or each is good
  pub judges : (index : Option ℕ) → MatchOption index ((k : ℕ) → k < n → Good k) (λ i. (i < n) × Bad i × ((k : ℕ) → k < i → Good k))
      → Judges cause n Good Bad (refusal cause index)
  judges None good = good
  judges (Some i) first = judges_first cause n Good Bad (Some i) _ refl (first.0, first.1, λ k lt bad. apart k (first.2 k lt) bad)

  -- `position` looked for it among the numbers below n, with a closure that answers `true` where the record is bad, and `false` where it is good
  pub judges_range : {F : Type 0} {g : Mut F (ℕ × Unit {0}) Bool} {s u : Range ℕ} (f : F) (index : Option ℕ) → s ≡ record { start = 0; end = n } → FindsPosition nat_range_steps g s f index u
      → ((k : ℕ) (q : F) → Called g f (k, tt) true q → Bad k) → ((k : ℕ) (q : F) → Called g f (k, tt) false q → (q ≡ f) × Good k)
      → Judges cause n Good Bad (refusal cause index)
  judges_range {u = u} f index from found bad good = judges index (by index (IsFirst-from_position u f index Bad Good found (YieldsList-from_range 0 n n from (omega arith)) bad good))
    where
      all : List ℕ
      all = range_with_len 0 n

      size : length all ≡ n
      size = length-range_with_len 0 n

      reads : (k : ℕ) → k < n → get_or all k 0 ≡ k
      reads k lt = get_or-range_with_len 0 n k 0 lt ∙ omega arith

      by : (r : Option ℕ) → MatchOption r (AllWithin Good all 0 (length all)) (λ i. (i < length all) × HoldsAt Bad all i × AllWithin Good all 0 i)
          → MatchOption r ((k : ℕ) → k < n → Good k) (λ i. (i < n) × Bad i × ((k : ℕ) → k < i → Good k))
      by None each = λ k lt. subst Good (reads k lt) (each k 0 (omega arith) (omega (arith, size)))
      by (Some i) first =
          let within : i < n = omega (arith, first.0, size) in
          (within, subst Bad (reads i within) (first.1 0), λ k lt. subst Good (reads k (omega arith)) (first.2 k 0 (omega arith) lt))
