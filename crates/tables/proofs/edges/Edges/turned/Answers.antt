use Rattle.tables.proofs.Turning.{begun_none, begun_fresh, begun_same, begun_more}
use Rattle.tables.proofs.edges.Edges.turned.Goals as goal
use Rattle.tables.proofs.edges.Edges.turned.Goals.{then-not-begun-q, else-not-begun-q}

pub loop-e-init : goal.loop-e-init
loop-e-init c = begun_none _ _ _ _ c.args.self.now.mesh

pub turn_from-requires-clause-fresh : goal.turn_from-requires-clause-fresh
turn_from-requires-clause-fresh c =
    begun_fresh _ _ _ _ c.args.self.now.mesh _ _ _ c.loop-e-test.true c.loop-e.invariant c.if-not-begun-q.true

pub loop-e-preserved : goal.loop-e-preserved
loop-e-preserved c =
    let s = c.args.self.now in
    elim c.if-not-begun-q.branch [
      | then-not-begun-q w ↦
          rw (w.marks-is, w.begun-is)
          (begun_more _ _ _ _ s.mesh _ _ _ _ c.loop-e-test.true s.points_to c.loop-e.invariant w.if-not-begun-q.true w.turn_from.auto.marks w.turn_from.ensures)
      | else-not-begun-q w ↦ rw (w.marks-is, w.begun-is) (begun_same _ _ _ _ s.mesh _ _ _ c.loop-e.invariant w.if-not-begun-q.false)
    ]
