use mir.Syntax.{w64}
use Rattle.algebra.proofs.Machine.{each, fits, gives, bound}
use Rattle.algebra.proofs.Ring.{Expr, var, ◌⊕◌, ◌⊗◌}
use Rattle.solid.proofs.Bounds.{pair, pair_far}
use Rattle.solid.proofs.dot.Goals as goal

abbrev XY : Expr
XY = var 0 ⊗ var 3 ⊕ var 1 ⊗ var 4

abbrev XYZ : Expr
XYZ = XY ⊕ var 2 ⊗ var 5

pub overflow_add-result : goal.overflow_add-result
overflow_add-result c = fits (each 6 16000) (pair c.args.u c.args.v) (pair_far c.args.u c.args.v c.requires) w64 XY tt

pub overflow_mul-result-3 : goal.overflow_mul-result-3
overflow_mul-result-3 c = fits (each 6 16000) (pair c.args.u c.args.v) (pair_far c.args.u c.args.v c.requires) w64 (var 2 ⊗ var 5) tt

pub overflow_add-result-2 : goal.overflow_add-result-2
overflow_add-result-2 c = fits (each 6 16000) (pair c.args.u c.args.v) (pair_far c.args.u c.args.v c.requires) w64 XYZ tt

pub returns : goal.returns
returns c =
    let ρ = pair c.args.u c.args.v in
    let h = pair_far c.args.u c.args.v c.requires in
    let e = gives (each 6 16000) ρ h w64 XYZ tt in
    record { is = e; bound = rw e (bound (each 6 16000) ρ h XYZ) }
