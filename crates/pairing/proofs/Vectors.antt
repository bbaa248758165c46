-- Vectors of expressions, for identities of vectors by computation.
use Rattle.std.proofs.Common.{ℕ, ◌+◌, ◌*◌, List, [], ◌∷◌, ℤ}
use Rattle.algebra.proofs.Ring.{Expr, var, ◌⊕◌, ◌⊖◌, ◌⊗◌}
use Rattle.solid.specs.declared.Vector.{Vector}

pub record Vectorᵉ : Type 0 where
  pub x : Expr
  pub y : Expr
  pub z : Expr

-- the values of the variables: the coordinates of vectors, in turn
abbrev pub env : List Vector → List ℤ
env [] = []
env (v ∷ vs) = v.x ∷ v.y ∷ v.z ∷ env vs

-- the n-th of those vectors
abbrev arrow : ℕ → Vectorᵉ
arrow n = record { x = var (3 * n); y = var (3 * n + 1); z = var (3 * n + 2) }

abbrev pub v0 : Vectorᵉ
v0 = arrow 0

abbrev pub v1 : Vectorᵉ
v1 = arrow 1

abbrev pub v2 : Vectorᵉ
v2 = arrow 2

abbrev pub v3 : Vectorᵉ
v3 = arrow 3

abbrev pub v4 : Vectorᵉ
v4 = arrow 4

abbrev pub v5 : Vectorᵉ
v5 = arrow 5

-- the vector from the place p to the place q
abbrev pub betweenᵉ : Vectorᵉ → Vectorᵉ → Vectorᵉ
betweenᵉ p q = record { x = q.x ⊖ p.x; y = q.y ⊖ p.y; z = q.z ⊖ p.z }

infixl 8 ◌·ᵉ◌
abbrev pub ◌·ᵉ◌ : Vectorᵉ → Vectorᵉ → Expr
u ·ᵉ v = u.x ⊗ v.x ⊕ u.y ⊗ v.y ⊕ u.z ⊗ v.z

-- the squared distance of two places
abbrev pub farᵉ : Vectorᵉ → Vectorᵉ → Expr
farᵉ p q = betweenᵉ p q ·ᵉ betweenᵉ p q

abbrev pub crossᵉ : Vectorᵉ → Vectorᵉ → Vectorᵉ
crossᵉ u v = record { x = u.y ⊗ v.z ⊖ u.z ⊗ v.y; y = u.z ⊗ v.x ⊖ u.x ⊗ v.z; z = u.x ⊗ v.y ⊖ u.y ⊗ v.x }

abbrev pub detᵉ : (a b c d e f g h i : Expr) → Expr
detᵉ a b c d e f g h i = a ⊗ (e ⊗ i ⊖ f ⊗ h) ⊕ b ⊗ (f ⊗ g ⊖ d ⊗ i) ⊕ c ⊗ (d ⊗ h ⊖ e ⊗ g)

abbrev pub volᵉ : Vectorᵉ → Vectorᵉ → Vectorᵉ → Expr
volᵉ u v w = detᵉ u.x u.y u.z v.x v.y v.z w.x w.y w.z

abbrev pub areaᵉ : Vectorᵉ → Vectorᵉ → Expr
areaᵉ e b = e ·ᵉ e ⊗ b ·ᵉ b ⊖ e ·ᵉ b ⊗ e ·ᵉ b
