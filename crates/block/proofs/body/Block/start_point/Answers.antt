use Rattle.std.proofs.Common.{arith}
use Rattle.block.proofs.Tabled.{start_used}
use Rattle.block.proofs.body.Block.start_point.Goals as goal

pub bounds-deref-from : goal.bounds-deref-from
bounds-deref-from c =
    rw (c.from.ensures, c.deref.ensures.0, c.deref-2.ensures.0) (start_used c.self.inside c.self.invariant c.args.edge (rw (← c.self.view_is) at c.requires))

pub offset_bounds-deref-from : goal.offset_bounds-deref-from
offset_bounds-deref-from c =
    let used = start_used c.self.inside c.self.invariant c.args.edge (rw (← c.self.view_is) at c.requires) in
    record { fits = rw (c.from.ensures, c.deref-2.ensures.0) (omega (arith, used, c.self.invariant.points_to)) }
