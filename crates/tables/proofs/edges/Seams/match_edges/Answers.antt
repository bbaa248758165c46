use Rattle.std.proofs.Common.{refl, arith}
use Rattle.std.proofs.lemmas.Option.{MatchOption-at_some}
use Rattle.tables.specs.Pairs.{Faces}
use Rattle.tables.proofs.Pushing.{each_pushed}
use Rattle.tables.proofs.Tallying.{between_one, between_again, tallied_none, tallied_more}
use Rattle.tables.proofs.edges.Seams.match_edges.Goals as goal
use Rattle.tables.proofs.edges.Seams.match_edges.Goals.{then-table-pair-eq0, else-table-pair-eq0}

pub loop-e-init : goal.loop-e-init
loop-e-init c = tallied_none _ _

pub loop-e-preserved : goal.loop-e-preserved
loop-e-preserved c =
    let b = c.args.self.now.seamed.bounded in
    let lt = c.loop-e-test.true in
    tallied_more _ _ _ _ c.loop-e.invariant (b.start_within _ lt) (b.start_within _ (b.next_within _ lt)) _
    (elim c.if-table-pair-eq0.branch [
      | then-table-pair-eq0 w ↦ rw (w.table-is, w.if-table-pair-eq0.true) (between_one _ (omega (arith, b.few)))
      | else-table-pair-eq0 w ↦ rw (w.table-is, between_again _ c.loop-e.e w.if-table-pair-eq0.false) refl
    ])

pub loop-edge-preserved : goal.loop-edge-preserved
loop-edge-preserved c =
    let s = c.args.self.now in
    let faces = MatchOption-at_some _ _ _ c.in_ok-ok_or.ensures.ok_part c.opposite_of.ensures in (
      omega (arith, c.push.ensures.len, c.loop-edge.invariant.0),
      rw c.push.ensures.items (each_pushed 0 (Faces s.starts.now s.next.now) _ _ _ c.loop-edge.invariant.0 c.loop-edge.invariant.1 faces),
    )
