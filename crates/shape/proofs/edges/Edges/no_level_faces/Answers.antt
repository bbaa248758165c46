use Rattle.std.proofs.Common.{rules, tests, refl}
use Rattle.drawing.proofs.Refusing.{judges_range}
use Rattle.shape.proofs.edges.Edges.no_level_faces.Goals as goal

pub returns : goal.returns
returns c = rw c.refuse_first.ensures (judges_range _ _ _ _ (λ _ good bad. good bad) _ _ refl c.position-level.ensures.ran (λ _ _ k. search (rules, tests)) (λ _ _ k. search (rules, tests)))
