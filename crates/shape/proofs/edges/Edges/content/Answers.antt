use Rattle.std.proofs.Common.{◌<◌, ◌+ℤ◌, pos, length, arith, rules, tests, ◌∙◌, to_z-of_z, w64}
use Rattle.std.proofs.lemmas.Iterator.{YieldsList-from_slice, YieldsList-from_map}
use Rattle.std.proofs.lemmas.Iterator.Consumers.{YieldsList-at}
use Rattle.std.proofs.lemmas.Iterator.Adapters.{serves_from_places, total_from_yields_List}
use Rattle.solid.specs.Limits.{greatest_volume}
use Rattle.shape.specs.Views.{wedge}
use Rattle.shape.proofs.Sums.{sum_fits}
use Rattle.shape.proofs.Fans.{enclosed, each_within}
use Rattle.shape.proofs.edges.Edges.content.Goals as goal

pub sum-requires-clause-can : goal.sum-requires-clause-can
sum-requires-clause-can c = (
  tt,
  serves_from_places (YieldsList-at c.map.ensures.source (YieldsList-from_slice _ c.iter.ensures.rest)) (λ _ _ k. search rules)
      (λ x k lt e. let within : x.now < length c.args.self.now.starts.now = each_within c.args.self.now.orders k _ lt e in rw c.map.ensures.closure (search rules)),
)

pub sum-requires-clause-fits : goal.sum-requires-clause-fits
sum-requires-clause-fits c =
    sum_fits _ greatest_volume (λ _ _ _ k. search (rules, tests)) c.map.result c.map.ensures.closure
    (rw (c.map.ensures.source, c.iter.ensures.rest) (omega (arith, c.args.self.now.few, c.args.self.now.orders.size)))

pub returns : goal.returns
returns c rounds l =
    to_z-of_z {w = w64} (record { sfits = c.sum.type_inv })
    ∙ (total_from_yields_List ◌+ℤ◌ (pos 0) _ c.sum.ensures.ran
    (YieldsList-from_map _ (wedge c.args.self.now) (YieldsList-at c.map.ensures.source (YieldsList-from_slice _ c.iter.ensures.rest)) c.map.ensures.closure (λ _ _ _ k. search (rules, tests)))
    ∙ enclosed c.args.self.now l)
