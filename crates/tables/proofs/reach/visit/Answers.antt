use Rattle.std.proofs.Common.{[], ◌∷◌, length, ap, arith, length-append}
use Rattle.tables.proofs.Marking.{unmarked_fewer}
use Rattle.tables.proofs.reach.visit.Goals as goal

pub unreachable-requires : goal.unreachable-requires
unreachable-requires c = omega (arith, unmarked_fewer c.args.marks.now c.args.e c.requires.0 c.if-not-marks-e.true, c.requires.1, c.in_default.ensures.room)

pub returns-in-Ok-clause-left : goal.returns-in-Ok-clause-left
returns-in-Ok-clause-left c =
    omega (arith, unmarked_fewer c.args.marks.now c.args.e c.requires.0 c.if-not-marks-e.true, ap length c.in-Ok.ensures.items, length-append c.args.list.now.items (c.args.e ∷ []))
