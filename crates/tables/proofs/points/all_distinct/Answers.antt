use Rattle.drawing.proofs.Refusing.{judges_first}
use Rattle.tables.proofs.points.all_distinct.Goals as goal

pub returns : goal.returns
returns c = judges_first _ _ _ _ _ _ c.refuse_first.ensures c.first_repeated.ensures
