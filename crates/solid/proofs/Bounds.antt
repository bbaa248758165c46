-- The coordinates of points and vectors as the variables of an expression, with their bounds.
use mathlib.Core.List.{List, [], ◌∷◌}
use native.Mathlib.Omega.{arith}
use lib.IntN.{ℤ}
use Rattle.solid.specs.declared.Point.{Point}
use Rattle.solid.specs.declared.Vector.{Vector}
use Rattle.solid.specs.Points.{Near, Far}
use Rattle.algebra.proofs.Machine.{each, Within}

abbrev pub two : Point → Point → List ℤ
two p q = p.x ∷ p.y ∷ p.z ∷ q.x ∷ q.y ∷ q.z ∷ []

pub two_near : (p q : Point) → Near p × Near q → Within (each 6 8000) (two p q)
two_near p q h = omega arith

abbrev pub pair : Vector → Vector → List ℤ
pair u v = u.x ∷ u.y ∷ u.z ∷ v.x ∷ v.y ∷ v.z ∷ []

pub pair_far : (u v : Vector) → Far u × Far v → Within (each 6 16000) (pair u v)
pair_far u v h = omega arith

abbrev pub three : Vector → Vector → Vector → List ℤ
three u v w = u.x ∷ u.y ∷ u.z ∷ v.x ∷ v.y ∷ v.z ∷ w.x ∷ w.y ∷ w.z ∷ []

pub three_far : (u v w : Vector) → Far u × (Far v × Far w) → Within (each 9 16000) (three u v w)
three_far u v w h = omega arith
