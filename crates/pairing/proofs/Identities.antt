-- Identities of the dot product and the volume.
use Rattle.std.proofs.Common.{◌≡◌, ◌≢◌, [], ◌∷◌, ℤ, pos, ◌+ℤ◌, ◌-ℤ◌, ◌*ℤ◌, neg_ℤ, ◌≤ℤ◌, sym, refl, ◌∙◌, arith}
use borrow.Author.Differences.{ints}
use Rattle.algebra.proofs.Ring.{con, neg, ◌⊕◌, ◌⊖◌, ◌⊗◌, ring}
use Rattle.algebra.proofs.Signs.{square_nonneg, zero_square}
use Rattle.solid.specs.declared.Point.{Point}
use Rattle.solid.specs.declared.Vector.{Vector}
use Rattle.solid.specs.Points.{between, place, dot, volume}
use Rattle.pairing.specs.Congruences.{distance}
use Rattle.pairing.proofs.Vectors.{env, v0, v1, v2, v3, v4, v5, betweenᵉ, ◌·ᵉ◌, farᵉ, crossᵉ, detᵉ, volᵉ, areaᵉ}

-- the determinant of nine numbers, by rows
abbrev pub det : (a b c d e f g h i : ℤ) → ℤ
det a b c d e f g h i = a *ℤ (e *ℤ i -ℤ f *ℤ h) +ℤ b *ℤ (f *ℤ g -ℤ d *ℤ i) +ℤ c *ℤ (d *ℤ h -ℤ e *ℤ g)

-- the square of the area that two vectors span
abbrev pub area : Vector → Vector → ℤ
area e b = dot e e *ℤ dot b b -ℤ dot e b *ℤ dot e b

-- ---- products of vectors
pub dot_comm : (u v : Vector) → dot u v ≡ dot v u
dot_comm u v = ring (env (u ∷ v ∷ [])) (v0 ·ᵉ v1) (v1 ·ᵉ v0) refl

pub dot_flip : (u v u' v' : Vector) → dot u v ≡ dot u' v' → dot v u ≡ dot v' u'
dot_flip u v u' v' h = dot_comm v u ∙ h ∙ dot_comm u' v'

-- two volumes multiplied: the determinant of the nine products
pub gram : (u v w x y z : Vector) → volume u v w *ℤ volume x y z ≡ det (dot u x) (dot u y) (dot u z) (dot v x) (dot v y) (dot v z) (dot w x) (dot w y) (dot w z)
gram u v w x y z = ring (env (u ∷ v ∷ w ∷ x ∷ y ∷ z ∷ [])) (volᵉ v0 v1 v2 ⊗ volᵉ v3 v4 v5) (detᵉ (v0 ·ᵉ v3) (v0 ·ᵉ v4) (v0 ·ᵉ v5) (v1 ·ᵉ v3) (v1 ·ᵉ v4) (v1 ·ᵉ v5) (v2 ·ᵉ v3) (v2 ·ᵉ v4) (v2 ·ᵉ v5)) refl

-- v split along e, b and the direction upright on both, and multiplied by u
pub split : (e b u v : Vector) → area e b *ℤ dot u v ≡ (dot v e *ℤ dot b b -ℤ dot v b *ℤ dot e b) *ℤ dot u e +ℤ (dot v b *ℤ dot e e -ℤ dot v e *ℤ dot e b) *ℤ dot u b +ℤ volume e b v *ℤ volume u e b
split e b u v = ring (env (e ∷ b ∷ u ∷ v ∷ [])) (areaᵉ v0 v1 ⊗ v2 ·ᵉ v3) ((v3 ·ᵉ v0 ⊗ v1 ·ᵉ v1 ⊖ v3 ·ᵉ v1 ⊗ v0 ·ᵉ v1) ⊗ v2 ·ᵉ v0 ⊕ (v3 ·ᵉ v1 ⊗ v0 ·ᵉ v0 ⊖ v3 ·ᵉ v0 ⊗ v0 ·ᵉ v1) ⊗ v2 ·ᵉ v1 ⊕ volᵉ v0 v1 v3 ⊗ volᵉ v2 v0 v1) refl

-- v split along e, b and c, and multiplied by w
pub cramer : (e b c v w : Vector) → volume e b c *ℤ dot v w ≡ volume v b c *ℤ dot e w +ℤ volume e v c *ℤ dot b w +ℤ volume e b v *ℤ dot c w
cramer e b c v w = ring (env (e ∷ b ∷ c ∷ v ∷ w ∷ [])) (volᵉ v0 v1 v2 ⊗ v3 ·ᵉ v4) (volᵉ v3 v1 v2 ⊗ v0 ·ᵉ v4 ⊕ volᵉ v0 v3 v2 ⊗ v1 ·ᵉ v4 ⊕ volᵉ v0 v1 v3 ⊗ v2 ·ᵉ v4) refl

-- ---- vectors between points
-- a product is made of four squared distances
pub polar : (a b c d : Point) → pos 2 *ℤ dot (between a b) (between c d) ≡ distance a d +ℤ distance b c -ℤ distance a c -ℤ distance b d
polar a b c d = ring (env (place a ∷ place b ∷ place c ∷ place d ∷ [])) (con (pos 2) ⊗ betweenᵉ v0 v1 ·ᵉ betweenᵉ v2 v3) (farᵉ v0 v3 ⊕ farᵉ v1 v2 ⊖ farᵉ v0 v2 ⊖ farᵉ v1 v3) refl

pub shift : (p q r s : Point) → volume (between p q) (between q r) (between p s) ≡ volume (between p q) (between p r) (between p s)
shift p q r s = ring (env (place p ∷ place q ∷ place r ∷ place s ∷ [])) (volᵉ (betweenᵉ v0 v1) (betweenᵉ v1 v2) (betweenᵉ v0 v3)) (volᵉ (betweenᵉ v0 v1) (betweenᵉ v0 v2) (betweenᵉ v0 v3)) refl

module _ (u : Vector) (p q : Point) where
  pub dot_back : dot u (between q p) ≡ neg_ℤ (dot u (between p q))
  dot_back = ring (env (u ∷ place p ∷ place q ∷ [])) (v0 ·ᵉ betweenᵉ v2 v1) (neg (v0 ·ᵉ betweenᵉ v1 v2)) refl

  pub dot_via : (r : Point) → dot u (between p r) ≡ dot u (between p q) +ℤ dot u (between q r)
  dot_via r = ring (env (u ∷ place p ∷ place q ∷ place r ∷ [])) (v0 ·ᵉ betweenᵉ v1 v3) (v0 ·ᵉ betweenᵉ v1 v2 ⊕ v0 ·ᵉ betweenᵉ v2 v3) refl

  pub dot_from : (r : Point) → dot u (between q r) ≡ dot u (between p r) -ℤ dot u (between p q)
  dot_from r = ring (env (u ∷ place p ∷ place q ∷ place r ∷ [])) (v0 ·ᵉ betweenᵉ v2 v3) (v0 ·ᵉ betweenᵉ v1 v3 ⊖ v0 ·ᵉ betweenᵉ v1 v2) refl

-- ---- two edges of a solid corner span an area
abbrev cross : Vector → Vector → Vector
cross u v = record { x = u.y *ℤ v.z -ℤ u.z *ℤ v.y; y = u.z *ℤ v.x -ℤ u.x *ℤ v.z; z = u.x *ℤ v.y -ℤ u.y *ℤ v.x }

area_is : (e b : Vector) → area e b ≡ dot (cross e b) (cross e b)
area_is e b = ring (env (e ∷ b ∷ [])) (areaᵉ v0 v1) (crossᵉ v0 v1 ·ᵉ crossᵉ v0 v1) refl

volume_is : (e b c : Vector) → volume e b c ≡ dot (cross e b) c
volume_is e b c = ring (env (e ∷ b ∷ c ∷ [])) (volᵉ v0 v1 v2) (crossᵉ v0 v1 ·ᵉ v2) refl

-- a sum of three numbers that are not negative
all_zero : (x y z : ℤ) → pos 0 ≤ℤ x → pos 0 ≤ℤ y → pos 0 ≤ℤ z → x +ℤ y +ℤ z ≡ pos 0 → (x ≡ pos 0) × (y ≡ pos 0) × (z ≡ pos 0)
all_zero x y z hx hy hz e = (omega (arith, ints), omega (arith, ints), omega (arith, ints))

-- a vector whose product with itself is zero
vanishes : (n : Vector) → dot n n ≡ pos 0 → (n.x ≡ pos 0) × (n.y ≡ pos 0) × (n.z ≡ pos 0)
vanishes n e =
    let each = all_zero (n.x *ℤ n.x) (n.y *ℤ n.y) (n.z *ℤ n.z) (square_nonneg n.x) (square_nonneg n.y) (square_nonneg n.z) e in
    (zero_square n.x each.0, zero_square n.y each.1, zero_square n.z each.2)

dot_zero : (n c : Vector) → dot n n ≡ pos 0 → dot n c ≡ pos 0
dot_zero n c e = let none = vanishes n e in rw (none.0, none.1, none.2) (omega (arith, ints))

pub area_nonzero : (e b c : Vector) → volume e b c ≢ pos 0 → area e b ≢ pos 0
area_nonzero e b c solid none = solid (volume_is e b c ∙ dot_zero (cross e b) c (sym (area_is e b) ∙ none))

-- ---- two points are one just where their distance is zero
pub distance_self : (p : Point) → distance p p ≡ pos 0
distance_self p = ring (env (place p ∷ [])) (farᵉ v0 v0) (con (pos 0)) refl

pub one_place : (p q : Point) → distance p q ≡ pos 0 → p ≡ q
one_place p q h =
    let none = vanishes (between p q) h in
    let one : (a b : ℤ) → b -ℤ a ≡ pos 0 → a ≡ b = λ a b e. omega (arith, ints) in
    λ i. record { x = one p.x q.x none.0 i; y = one p.y q.y none.1 i; z = one p.z q.z none.2 i }
