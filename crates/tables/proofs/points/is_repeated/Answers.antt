use Rattle.std.proofs.Common.{rules, refl, arith}
use Rattle.std.proofs.lemmas.Grind.{common_steps}
use Rattle.tables.proofs.Bucketing.{walk_goes_on}
use Rattle.tables.proofs.points.is_repeated.Goals as goal

pub loop-earlier-preserved : goal.loop-earlier-preserved
loop-earlier-preserved c =
    let walk = rw c.in-Some.is at c.loop-earlier.invariant in
    walk_goes_on _ _ _ walk (search rules) _ (c.requires.linked _ walk.before)

pub returns-then-eq : goal.returns-then-eq
returns-then-eq c =
    let walk = rw c.in-Some.is at c.loop-earlier.invariant in (λ _. record { earlier = c.in-Some.q; before = walk.before; same = grind (arith, common_steps) }, λ _. refl)
