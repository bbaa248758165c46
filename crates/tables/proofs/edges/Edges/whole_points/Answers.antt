use Rattle.tables.proofs.Judging.{judges_as, judges_marked}
use Rattle.tables.proofs.Turning.{whole_from_marks, marks_from_whole}
use Rattle.tables.proofs.edges.Edges.whole_points.Goals as goal

pub returns : goal.returns
returns c =
    let marks = c.turned.ensures in
    judges_as _ _ _ _ _ _ c.all_marked.result
    (λ q _ all. whole_from_marks _ _ _ _ marks q all)
    (λ q _ not-all whole. not-all (marks_from_whole _ _ _ _ marks q whole))
    (λ q _ not-whole all. not-whole (whole_from_marks _ _ _ _ marks q all))
    (judges_marked _ 160 _ _ _ c.all_marked.result c.args.self.now.points_to c.full_points-full.ensures c.all_marked.ensures)
