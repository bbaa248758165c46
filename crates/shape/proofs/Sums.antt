-- Sums of integers over lists.
use Rattle.std.proofs.Common.{◌≡◌, ℕ, ◌+◌, ◌*◌, ◌^◌, ◌<◌, ◌≤◌, List, [], ◌∷◌, ◌++◌, length, map, ℤ, pos, ◌+ℤ◌, nat_abs, Bor, ap, ◌∙◌, subst, arith, w64, FitsSigned}
use borrow.Author.Differences.{ints}
use Rattle.std.specs.declared.iter.Map.{Map}
use Rattle.std.specs.declared.slice.Iter.{Iter}
use Rattle.std.specs.Fn.{Called}
use Rattle.std.specs.Iterator.{Yields}
use Rattle.std.specs.Iterator.Adapters.{map_steps, map_callee, map_source}
use Rattle.std.specs.Iterator.Runs.{EachRunFrom, YieldsRun}
use Rattle.std.specs.List.{fold}
use Rattle.std.specs.Slice.Iter.{iter_rest}
use Rattle.std.proofs.iter.Yields.{fronts}
use denote.Param.Members.{Mut}
use Rattle.algebra.proofs.Machine.{fits_abs}

-- the sum of f over a list
abbrev pub summed : (ℕ → ℤ) → List ℕ → ℤ
summed f [] = pos 0
summed f (k ∷ ks) = f k +ℤ summed f ks

pub summed_append : (f : ℕ → ℤ) (xs ys : List ℕ) → summed f (xs ++ ys) ≡ summed f xs +ℤ summed f ys
summed_append f [] ys = omega (arith, ints)
summed_append f (x ∷ xs) ys = rw (summed_append f xs ys) (omega (arith, ints))

fold_summed : (f : ℕ → ℤ) (a : ℤ) (xs : List ℕ) → fold ◌+ℤ◌ a (map f xs) ≡ a +ℤ summed f xs
fold_summed f a [] = omega (arith, ints)
fold_summed f a (x ∷ xs) = rw (fold_summed f (a +ℤ f x) xs) (omega (arith, ints))

-- what `sum` says of it
pub total_summed : (f : ℕ → ℤ) (xs : List ℕ) → fold ◌+ℤ◌ (pos 0) (map f xs) ≡ summed f xs
total_summed f xs = fold_summed f (pos 0) xs ∙ omega (arith, ints)

-- Over the elements of a list, f gives integers of this size at most.
module _ {A F : Type 0} {g : Mut F (Bor A × Unit {0}) ℤ} (f : F) (most : ℕ) (each : (x : Bor A) (r : ℤ) (q : F) → Called g f (x, tt) r q → (q ≡ f) × (nat_abs r ≤ most)) where
  sum_at_most : (rs : List ℤ) (a : ℤ) (s t : Map (Iter A) F) → map_callee s ≡ f → Yields (map_steps fronts g) s rs t → nat_abs (fold ◌+ℤ◌ a rs) ≤ nat_abs a + most * length (iter_rest (map_source s))
  sum_at_most [] a s t e y = omega arith
  sum_at_most (r ∷ rs) a s t e y =
      let c = each y.1.0 r _ (subst (λ h. Called g h (y.1.0, tt) r (map_callee y.0)) e y.1.2) in
      let one : nat_abs (a +ℤ r) ≤ nat_abs a + nat_abs r = omega (arith, ints) in
      let rest : most * length (iter_rest (map_source s)) ≡ most + most * length (iter_rest (map_source y.0)) = rw (ap length y.1.1) (omega arith) in
      omega (arith, sum_at_most rs (a +ℤ r) y.0 t c.0 y.2, c.1, one, rest)

  -- what `sum` asks after `map`
  pub sum_fits : (s : Map (Iter A) F) → map_callee s ≡ f → most * length (iter_rest (map_source s)) < 2 ^ 63 → EachRunFrom (map_steps fronts g) s (λ p. FitsSigned w64 (fold ◌+ℤ◌ (pos 0) p.items))
  unfolding YieldsRun
  sum_fits s e small p _ from =
      let run = subst (λ u. Yields (map_steps fronts g) u p.items p.gave.0.0) from p.gave.0.1 in
      fits_abs w64 (fold ◌+ℤ◌ (pos 0) p.items) (omega (arith, sum_at_most p.items (pos 0) s p.gave.0.0 e run, small))
