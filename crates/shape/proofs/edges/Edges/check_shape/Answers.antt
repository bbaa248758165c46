use Rattle.std.proofs.lemmas.Result.{err_from_is_err_and}
use Rattle.shape.specs.Shapes.{level}
use Rattle.shape.proofs.edges.Edges.check_shape.Goals as goal

pub returns-in_err-no_level_faces : goal.returns-in_err-no_level_faces
returns-in_err-no_level_faces c rounds l =
    let p = err_from_is_err_and c.from_residual-in_err-no_level_faces.result c.from_residual-in_err-no_level_faces.ensures.1 in
    rw (p.1, p.2) (level c.in_ok-flat_faces.ensures c.in_err-no_level_faces.ensures)
