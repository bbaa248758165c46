use Rattle.std.proofs.Common.{arith, below_more}
use Rattle.std.proofs.lemmas.Option.{MatchOption-at_none, MatchOption-at_some}
use Rattle.std.proofs.lemmas.Result.{err_from_is_err_and}
use Rattle.drawing.proofs.Refusing.{refused_here}
use Rattle.tables.proofs.Completing.{walked_none, walked_next, followed_next, not_followed}
use Rattle.tables.proofs.chains.follow_faces.Goals as goal

pub loop-k-init : goal.loop-k-init
loop-k-init c = (walked_none _ _ c.new-walk.ensures, λ j lt. absurd (omega arith))

pub returns-in_err-ok_or : goal.returns-in_err-ok_or
returns-in_err-ok_or c =
    let p = err_from_is_err_and c.from_residual.result c.from_residual.ensures.1 in
    let value = rw c.in_err-ok_or.ensures.ok_part at c.in_err-ok_or.ensures.value in
    let none = MatchOption-at_none _ _ c.in_err-ok_or.ensures.ok_part c.follow.ensures in
    rw (p.1, p.2)
    (refused_here _ _ c.loop-k.k _ _ value c.loop-k-test.true (not_followed _ _ _ c.loop-k-test.true _ c.loop-k.invariant.0 none)
    (λ j lt out. out (c.loop-k.invariant.1 j lt)))

pub loop-k-preserved : goal.loop-k-preserved
loop-k-preserved c =
    let t = MatchOption-at_some _ _ _ c.in_ok-ok_or.ensures.ok_part c.follow.ensures in (
      walked_next _ _ _ c.loop-k-test.true _ c.loop-k.invariant.0 _ t,
      below_more _ _ c.loop-k.invariant.1 (followed_next _ _ _ c.loop-k-test.true _ c.loop-k.invariant.0 _ t),
    )
