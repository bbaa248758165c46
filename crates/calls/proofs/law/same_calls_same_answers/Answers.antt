use Rattle.calls.proofs.SameRows.{same_calls_same_answers_lem}
use Rattle.calls.proofs.law.same_calls_same_answers.Goals as goal

pub returns : goal.returns
returns g c = same_calls_same_answers_lem g.K.Kind.label g.K.Kind.same
