use native.Mathlib.Nat.{sub-zero}
use Rattle.std.proofs.Common.{length, sym, subst}
use Rattle.std.proofs.lemmas.Result.{err_from_is_err_and}
use Rattle.drawing.specs.Nets.{Net}
use Rattle.drawing.specs.Verdicts.{tables, Draws}
use Rattle.block.specs.Checked.{Checked}
use Rattle.block.proofs.Checking.{placed, nexts, opposites, orders, homes, few, listed, shape_refused, sound, checked, drawn, only_refusal, only_sound}
use Rattle.block.proofs.body.checking.check.Goals as goal

pub returns-in_err-wiring : goal.returns-in_err-wiring
returns-in_err-wiring c =
    let p = err_from_is_err_and c.from_residual.result c.from_residual.ensures.1 in
    let r = c.in_err-wiring.ensures in
    rw (p.1, p.2) (record { verdict = r; only = only_refusal _ _ r; checked = tt; drawn = tt })

pub invariant_of-edges : goal.invariant_of-edges
invariant_of-edges c =
    let t = tables c.args.points.now c.args.corners.now c.args.faces.now in
    let w = c.in_ok-wiring.wiring in
    let h = c.in_ok-wiring.ensures in
    rw (sub-zero (length c.args.corners.now), h.starts_are)
    (record { placed = placed t w h; nexts = nexts t w h; opposites = opposites t w h; orders = orders t w h; homes = homes t w h; few = few t w h })

pub returns-in_err-check_shape : goal.returns-in_err-check_shape
returns-in_err-check_shape c =
    let p = err_from_is_err_and c.from_residual-in_err-check_shape.result c.from_residual-in_err-check_shape.ensures.1 in
    let t = tables c.args.points.now c.args.corners.now c.args.faces.now in
    let w = c.in_ok-wiring.wiring in
    let h = c.in_ok-wiring.ensures in
    let e = rw (sub-zero (length c.args.corners.now), h.starts_are) at c.in_err-check_shape.ensures in
    let r = shape_refused t w h _ (e _ (listed t w h)) in
    rw (p.1, p.2) (record { verdict = r; only = only_refusal _ _ r; checked = tt; drawn = tt })

pub assemble-requires : goal.assemble-requires
assemble-requires c =
    let t = tables c.args.points.now c.args.corners.now c.args.faces.now in
    let w = c.in_ok-wiring.wiring in
    let h = c.in_ok-wiring.ensures in
    let e = rw (sub-zero (length c.args.corners.now), h.starts_are) at c.in_ok-check_shape.ensures in
    checked t w h (e _ (listed t w h))

pub returns : goal.returns
returns c =
    let t = tables c.args.points.now c.args.corners.now c.args.faces.now in
    let w = c.in_ok-wiring.wiring in
    let h = c.in_ok-wiring.ensures in
    let e = rw (sub-zero (length c.args.corners.now), h.starts_are) at c.in_ok-check_shape.ensures in
    let s = e _ (listed t w h) in
    let good = sound t w h s in
    record {
      verdict = good;
      only = only_sound t good;
      checked = subst (λ (m : Net). Checked m) (sym c.assemble.ensures) (checked t w h s);
      drawn = subst (λ (m : Net). Draws t m) (sym c.assemble.ensures) (drawn t w h s);
    }
