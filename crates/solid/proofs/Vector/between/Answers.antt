use mir.Syntax.{w64}
use Rattle.algebra.proofs.Machine.{each, gives, bound}
use Rattle.algebra.proofs.Ring.{Expr, var, ◌⊖◌}
use Rattle.solid.proofs.Bounds.{two, two_near}
use Rattle.solid.proofs.Vector.between.Goals as goal

abbrev X : Expr
X = var 3 ⊖ var 0

abbrev Y : Expr
Y = var 4 ⊖ var 1

abbrev Z : Expr
Z = var 5 ⊖ var 2

pub returns : goal.returns
returns c =
    let ρ = two c.args.p c.args.q in
    let h = two_near c.args.p c.args.q c.requires in
    let x = gives (each 6 8000) ρ h w64 X tt in
    let y = gives (each 6 8000) ρ h w64 Y tt in
    let z = gives (each 6 8000) ρ h w64 Z tt in
    record {
      is = λ i. record { x = x i; y = y i; z = z i };
      far = record { far_x = rw x (bound (each 6 8000) ρ h X); far_y = rw y (bound (each 6 8000) ρ h Y); far_z = rw z (bound (each 6 8000) ρ h Z) };
    }
