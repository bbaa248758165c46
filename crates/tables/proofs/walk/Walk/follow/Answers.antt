use Rattle.std.proofs.Common.{◌-◌, ap, arith}
use Rattle.drawing.specs.declared.record.Corner.{Corner}
use Rattle.drawing.specs.Chains.{no_corner}
use Rattle.tables.proofs.Stepping.{walking_more, leads_out, meets_again, too_short}
use Rattle.tables.proofs.walk.Walk.follow.Goals as goal

pub returns-in_err-corner : goal.returns-in_err-corner
returns-in_err-corner c =
    rw c.from_residual.ensures (λ ks h _. leads_out _ _ _ _ _ c.loop-number.invariant (omega arith) (omega (arith, c.in_err-corner.ensures.lookup)) ks h)

pub returns-in_err-meet : goal.returns-in_err-meet
returns-in_err-meet c =
    rw c.from_residual-in_err-meet.ensures (meets_again _ _ _ _ _ c.loop-number.invariant (c.loop-number.number - 1) (omega arith) c.in_err-meet.ensures)

pub loop-number-preserved : goal.loop-number-preserved
loop-number-preserved c =
    let here = c.in_ok-corner.ensures.lookup in
    rw (ap (λ (d : Corner). d.next) (here.4 (omega arith) no_corner))
    (walking_more _ _ _ _ _ c.loop-number.invariant _ (c.loop-number.number - 1) (omega arith) (omega (arith, here)) (omega (arith, here, c.requires)) c.in_ok-meet.ensures)

pub returns-else-len-from-ge3 : goal.returns-else-len-from-ge3
returns-else-len-from-ge3 c = λ ks h _.
    too_short _ _ _ _ _ c.loop-number.invariant c.loop-number-test.false (omega (arith, c.if-len-from-ge3.false, c.len.ensures.value, c.len-from.ensures.value)) ks h
