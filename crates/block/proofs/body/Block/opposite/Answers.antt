use Rattle.block.proofs.Tabled.{opposite_used}
use Rattle.block.proofs.body.Block.opposite.Goals as goal

pub returns-clause-within : goal.returns-clause-within
returns-clause-within c =
    rw (c.from.ensures, c.deref.ensures.0, ← c.self.view_is) (opposite_used c.self.inside c.self.invariant c.args.edge (rw (← c.self.view_is) at c.requires))
