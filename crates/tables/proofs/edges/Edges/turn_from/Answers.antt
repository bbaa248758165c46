use Rattle.std.proofs.Common.{◌<◌, length, arith}
use Rattle.tables.proofs.Cycles.{going_on, going_ends}
use Rattle.tables.proofs.Marking.{unmarked_fewer}
use Rattle.tables.proofs.Turning.{turn_permutes}
use Rattle.tables.proofs.edges.Edges.turn_from.Goals as goal

pub loop-marks-preserved : goal.loop-marks-preserved
loop-marks-preserved c = (
  going_on _ _ _ _ _ (omega (arith, c.loop-marks.auto.marks, c.requires.within)) c.loop-marks.invariant.0,
  (turn_permutes _ _ _ _ c.args.self.now.mesh).within _ c.loop-marks.invariant.1,
)

pub loop-marks-smaller : goal.loop-marks-smaller
loop-marks-smaller c =
    let within : c.loop-marks.e < length c.loop-marks.marks = omega (arith, c.loop-marks.auto.marks, c.requires.within, c.loop-marks.invariant.1) in
    omega (arith, unmarked_fewer c.loop-marks.marks c.loop-marks.e within c.loop-marks-test.true)

pub returns : goal.returns
returns c = going_ends _ _ _ _ _ _ (turn_permutes _ _ _ _ c.args.self.now.mesh) c.requires.within.0 c.requires.fresh c.loop-marks.invariant.0 c.loop-marks-test.false
