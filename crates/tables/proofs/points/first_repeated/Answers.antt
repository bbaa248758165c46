use Rattle.std.proofs.Common.{arith}
use Rattle.std.proofs.lemmas.Bool.{false≢true}
use Rattle.tables.proofs.Bucketing.{filled_none, filled_more}
use Rattle.tables.proofs.points.first_repeated.Goals as goal

pub loop-p-init : goal.loop-p-init
loop-p-init c = filled_none _

pub loop-p-preserved : goal.loop-p-preserved
loop-p-preserved c =
    filled_more _ _ _ _ _ (omega arith) c.loop-p.invariant c.bucket-b.ensures.is c.bucket-b.ensures.below
    (λ again. false≢true (c.if-is_repeated.ensures.1 again))

pub returns : goal.returns
returns c k h = c.loop-p.invariant.distinct k (omega arith)
