use Rattle.std.proofs.lemmas.Result.{err_from_is_err_and}
use Rattle.tables.specs.Bare.{bare}
use Rattle.tables.specs.Stages.{pinched, unreached}
use Rattle.tables.proofs.Joining.{mesh_from}
use Rattle.tables.proofs.edges.Seams.join.Goals as goal

pub invariant_of-edges : goal.invariant_of-edges
invariant_of-edges c =
    let s = c.args.self.now.seamed in
    record {
      points_to = s.points_to;
      some = s.some;
      few = s.bounded.few;
      mesh = rw c.as_slice.ensures.value (mesh_from _ (bare _ _ _) s c.in_ok-opposite.ensures);
    }

pub returns-in_err-whole_points : goal.returns-in_err-whole_points
returns-in_err-whole_points c =
    let p = err_from_is_err_and c.from_residual-in_err-whole_points.result c.from_residual-in_err-whole_points.ensures.1 in
    rw (p.1, p.2) (pinched _ c.in_ok-opposite.ensures (rw c.as_slice.ensures.value at c.in_err-whole_points.ensures))

pub returns-in_err-all_reached : goal.returns-in_err-all_reached
returns-in_err-all_reached c =
    let p = err_from_is_err_and c.from_residual-in_err-all_reached.result c.from_residual-in_err-all_reached.ensures.1 in
    rw (p.1, p.2) (unreached _ c.in_ok-opposite.ensures (rw c.as_slice.ensures.value at c.in_ok-whole_points.ensures)
    (rw (c.as_slice.ensures.value, c.args.self.now.seamed.bounded.next_size) at c.in_err-all_reached.ensures))

pub returns : goal.returns
returns c = record {
  joined = c.in_ok-opposite.ensures;
  whole = rw c.as_slice.ensures.value at c.in_ok-whole_points.ensures;
  reached = rw (c.as_slice.ensures.value, c.args.self.now.seamed.bounded.next_size) at c.in_ok-all_reached.ensures;
}
