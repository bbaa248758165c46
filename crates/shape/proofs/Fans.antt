-- The sum of the wedges over the chains is the volume that the faces enclose.
use Rattle.std.proofs.Common.{◌≡◌, ℕ, ◌<◌, List, [], ◌∷◌, ◌++◌, map, length, get_or, ℤ, pos, ◌+ℤ◌, refl, ap, ◌∙◌, arith}
use borrow.Author.Differences.{ints}
use Rattle.std.specs.List.{AllByRecursion, fold}
use Rattle.std.proofs.lemmas.List.{get_or_default}
use Rattle.algebra.proofs.Ring.{Expr, con, var, ◌⊕◌, ◌⊖◌, ◌⊗◌, ring}
use Rattle.solid.specs.declared.Point.{Point}
use Rattle.solid.specs.Points.{place, volume}
use Rattle.drawing.specs.Lists.{at, flat, rotated}
use Rattle.drawing.specs.Nets.{fan_from, fan, content}
use Rattle.drawing.specs.Homes.{AtHome}
use Rattle.shape.specs.declared.edges.Edges.{Edges}
use Rattle.shape.specs.Edges.{EdgeList}
use Rattle.shape.specs.Views.{corner, wedge, HasRounds}
use Rattle.shape.proofs.Sums.{summed, summed_append, total_summed}

-- the determinant of these variables, row by row
abbrev det : (a b c d e f g h i : ℕ) → Expr
det a b c d e f g h i = var a ⊗ (var e ⊗ var i ⊖ var f ⊗ var h) ⊕ var b ⊗ (var f ⊗ var g ⊖ var d ⊗ var i) ⊕ var c ⊗ (var d ⊗ var h ⊖ var e ⊗ var g)

abbrev both : Point → Point → List ℤ
both p q = p.x ∷ p.y ∷ p.z ∷ q.x ∷ q.y ∷ q.z ∷ []

-- Two equal rows make no volume.
first_twice : (p q : Point) → volume (place p) (place p) (place q) ≡ pos 0
first_twice p q = ring (both p q) (det 0 1 2 0 1 2 3 4 5) (con (pos 0)) refl

back_again : (p q : Point) → volume (place p) (place q) (place p) ≡ pos 0
back_again p q = ring (both p q) (det 0 1 2 3 4 5 0 1 2) (con (pos 0)) refl

module _ (e : Edges) where
  -- From the corner k on, the chain of h leads through ks and back to h.
  rest : (h k : ℕ) (ks : List ℕ) → map (at e.next.now) (k ∷ ks) ≡ ks ++ (h ∷ []) → AllByRecursion (λ j. at e.home.now j ≡ h) (k ∷ ks) → summed (wedge e) (k ∷ ks) ≡ fan_from (corner e h) (corner e k) (map (corner e) ks)
  rest h k [] goes homes =
      let n : at e.next.now k ≡ h = cc in
      rw (homes.0, n, back_again (corner e h) (corner e k)) refl
  rest h k (j ∷ ks) goes homes =
      let n : at e.next.now k ≡ j = cc in
      let more : map (at e.next.now) (j ∷ ks) ≡ ks ++ (h ∷ []) = cc in
      rw (homes.0, n, rest h j ks more homes.1) refl

  chain : (ks : List ℕ) → map (at e.next.now) ks ≡ rotated ks → AtHome e.home.now ks → summed (wedge e) ks ≡ fan (map (corner e) ks)
  chain [] goes homes = refl
  chain (h ∷ []) goes homes = rest h h [] goes homes
  chain (h ∷ k ∷ ks) goes homes = rest h h (k ∷ ks) goes homes ∙ rw (first_twice (corner e h) (corner e k)) (omega (arith, ints))

  all_chains : (rounds : List (List ℕ)) → AllByRecursion (λ ks. map (at e.next.now) ks ≡ rotated ks) rounds → AllByRecursion (AtHome e.home.now) rounds → summed (wedge e) (flat rounds) ≡ content e.points.now e.starts.now rounds
  all_chains [] goes homes = refl
  all_chains (ks ∷ rounds) goes homes = summed_append _ ks (flat rounds) ∙ rw (chain ks goes.0 homes.0, all_chains rounds goes.1 homes.1) refl

  pub enclosed : {rounds : List (List ℕ)} → HasRounds e rounds → fold ◌+ℤ◌ (pos 0) (map (wedge e) e.order.now) ≡ content e.points.now e.starts.now rounds
  enclosed {rounds} l = total_summed (wedge e) e.order.now ∙ (ap (summed (wedge e)) l.order_is ∙ all_chains rounds l.goes_round l.homes)

-- What stands in a list that leads to edges is one of them.
pub each_within : {n : ℕ} {es : List ℕ} → EdgeList n es → (k x : ℕ) → k < length es → x ≡ get_or es k x → x < n
each_within {es = es} list k x lt e = omega (arith, list.size, e, get_or_default es k x 0 lt, list.within k (omega (arith, list.size)))
