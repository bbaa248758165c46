use mir.Syntax.{w64}
use mir.Val.{SFits, to_z, of_z}
use mathlib.Core.Path.{◌≡◌}
use Prim.Native.Nat.{◌≤◌}
use lib.Dec.{T}
use lib.IntN.{nat_abs}
use Rattle.solid.specs.declared.Vector.{Vector}
use Rattle.solid.specs.Points.{Far}
use Rattle.algebra.proofs.Machine.{each, fits, gives, bound, raw, inside, size}
use Rattle.solid.proofs.Bounds.{three, three_far}
use Rattle.algebra.proofs.Ring.{Expr, var, ◌⊕◌, ◌⊖◌, ◌⊗◌, eval}
use Rattle.solid.proofs.volume.Goals as goal

module _ (u v w : Vector) (h : Far u × (Far v × Far w)) where
  ok : (e : Expr) → T (inside w64 (each 9 16000) e) → SFits w64 (raw w64 (three u v w) e)
  ok e t = fits (each 9 16000) (three u v w) (three_far u v w h) w64 e t

  value : (e : Expr) → T (inside w64 (each 9 16000) e) → to_z w64 (of_z w64 (raw w64 (three u v w) e)) ≡ eval (three u v w) e
  value e t = gives (each 9 16000) (three u v w) (three_far u v w h) w64 e t

  most : (e : Expr) → nat_abs (eval (three u v w) e) ≤ size (each 9 16000) e
  most e = bound (each 9 16000) (three u v w) (three_far u v w h) e

abbrev A : Expr
A = var 4 ⊗ var 8 ⊖ var 5 ⊗ var 7

abbrev B : Expr
B = var 5 ⊗ var 6 ⊖ var 3 ⊗ var 8

abbrev C : Expr
C = var 3 ⊗ var 7 ⊖ var 4 ⊗ var 6

abbrev V : Expr
V = var 0 ⊗ A ⊕ var 1 ⊗ B ⊕ var 2 ⊗ C

pub overflow_mul-result : goal.overflow_mul-result
overflow_mul-result c = ok c.args.u c.args.v c.args.w c.requires (var 4 ⊗ var 8) tt

pub overflow_mul-result-2 : goal.overflow_mul-result-2
overflow_mul-result-2 c = ok c.args.u c.args.v c.args.w c.requires (var 5 ⊗ var 7) tt

pub overflow_sub-result : goal.overflow_sub-result
overflow_sub-result c = ok c.args.u c.args.v c.args.w c.requires (A) tt

pub overflow_mul-result-3 : goal.overflow_mul-result-3
overflow_mul-result-3 c = ok c.args.u c.args.v c.args.w c.requires (var 0 ⊗ A) tt

pub overflow_mul-result-4 : goal.overflow_mul-result-4
overflow_mul-result-4 c = ok c.args.u c.args.v c.args.w c.requires (var 5 ⊗ var 6) tt

pub overflow_mul-result-5 : goal.overflow_mul-result-5
overflow_mul-result-5 c = ok c.args.u c.args.v c.args.w c.requires (var 3 ⊗ var 8) tt

pub overflow_sub-result-2 : goal.overflow_sub-result-2
overflow_sub-result-2 c = ok c.args.u c.args.v c.args.w c.requires (B) tt

pub overflow_mul-result-6 : goal.overflow_mul-result-6
overflow_mul-result-6 c = ok c.args.u c.args.v c.args.w c.requires (var 1 ⊗ B) tt

pub overflow_add-result : goal.overflow_add-result
overflow_add-result c = ok c.args.u c.args.v c.args.w c.requires (var 0 ⊗ A ⊕ var 1 ⊗ B) tt

pub overflow_mul-result-7 : goal.overflow_mul-result-7
overflow_mul-result-7 c = ok c.args.u c.args.v c.args.w c.requires (var 3 ⊗ var 7) tt

pub overflow_mul-result-8 : goal.overflow_mul-result-8
overflow_mul-result-8 c = ok c.args.u c.args.v c.args.w c.requires (var 4 ⊗ var 6) tt

pub overflow_sub-result-3 : goal.overflow_sub-result-3
overflow_sub-result-3 c = ok c.args.u c.args.v c.args.w c.requires (C) tt

pub overflow_mul-result-9 : goal.overflow_mul-result-9
overflow_mul-result-9 c = ok c.args.u c.args.v c.args.w c.requires (var 2 ⊗ C) tt

pub overflow_add-result-2 : goal.overflow_add-result-2
overflow_add-result-2 c = ok c.args.u c.args.v c.args.w c.requires (V) tt

pub returns : goal.returns
returns c =
    let e = value c.args.u c.args.v c.args.w c.requires V tt in
    record { is = e; bound = rw e (most c.args.u c.args.v c.args.w c.requires V) }
