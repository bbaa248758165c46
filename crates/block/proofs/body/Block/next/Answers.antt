use Rattle.block.proofs.Tabled.{next_used}
use Rattle.block.proofs.body.Block.next.Goals as goal

pub returns-clause-within : goal.returns-clause-within
returns-clause-within c =
    rw (c.from.ensures, c.deref.ensures.0, ← c.self.view_is) (next_used c.self.inside c.self.invariant c.args.edge (rw (← c.self.view_is) at c.requires))
