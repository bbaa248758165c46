use Rattle.std.proofs.Common.{List, ℕ, Ok, Err, Result, MatchResult}
use Rattle.drawing.specs.Nets.{Net}
use Rattle.laying.specs.Flaws.{Misfit}
use Rattle.laying.specs.Layings.{misfit_in, Congruent}
use Rattle.kept.specs.Answered.{ByShape}
use Rattle.kept.proofs.recent.lay_under.Goals as goal

by_shape : {X : Type 0} (a b : Net) (images : List ℕ) (r : Result X Misfit) → MatchResult r (λ _. Congruent a b images) (λ _. Congruent a b images → ⊥)
    → ByShape a b images (misfit_in r)
by_shape a b images (Ok x) h = h
by_shape a b images (Err m) h = h

pub returns-in-Measure-clause-verdict : goal.returns-in-Measure-clause-verdict
returns-in-Measure-clause-verdict c =
    let m = c.lay_by_measure.ensures.measured in
    rw c.in-Measure.is (m.tried.verdict, by_shape _ _ _ _ m.exactly)
