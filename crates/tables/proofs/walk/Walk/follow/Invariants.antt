use Rattle.tables.specs.Steps.{unmet}
use Rattle.tables.proofs.Stepping.{Walking}
use Rattle.tables.proofs.walk.Walk.follow.Given as goal

abbrev pub invariant-loop-number : goal.invariant-loop-number
invariant-loop-number l = Walking l.corners l.first l.initial.self l.self l.number

abbrev pub decreases-loop-number : goal.decreases-loop-number
decreases-loop-number l = unmet l.self.home
