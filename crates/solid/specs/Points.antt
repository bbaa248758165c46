-- Points, vectors, the dot product and the signed volume.
use Rattle.std.specs.Prelude.{◌≤◌, ℤ, ◌+ℤ◌, ◌-ℤ◌, ◌*ℤ◌, nat_abs}
use Rattle.solid.specs.declared.Point.{Point}
use Rattle.solid.specs.declared.Vector.{Vector}

-- Each coordinate of a point runs from -8000 to 8000.
pub record Near (p : Point) : Type 0 where
  pub near_x : nat_abs p.x ≤ 8000
  pub near_y : nat_abs p.y ≤ 8000
  pub near_z : nat_abs p.z ≤ 8000

-- Each coordinate of a difference of two such points runs from -16000 to 16000.
pub record Far (v : Vector) : Type 0 where
  pub far_x : nat_abs v.x ≤ 16000
  pub far_y : nat_abs v.y ≤ 16000
  pub far_z : nat_abs v.z ≤ 16000

-- the vector from p to q
abbrev pub between : Point → Point → Vector
between p q = record { x = q.x -ℤ p.x; y = q.y -ℤ p.y; z = q.z -ℤ p.z }

-- the vector from the origin to p
abbrev pub place : Point → Vector
place p = record { x = p.x; y = p.y; z = p.z }

-- the sum of the products of the coordinates
abbrev pub dot : Vector → Vector → ℤ
dot u v = u.x *ℤ v.x +ℤ u.y *ℤ v.y +ℤ u.z *ℤ v.z

-- the determinant with rows u, v, w
abbrev pub volume : Vector → Vector → Vector → ℤ
volume u v w = u.x *ℤ (v.y *ℤ w.z -ℤ v.z *ℤ w.y) +ℤ u.y *ℤ (v.z *ℤ w.x -ℤ v.x *ℤ w.z) +ℤ u.z *ℤ (v.x *ℤ w.y -ℤ v.y *ℤ w.x)
