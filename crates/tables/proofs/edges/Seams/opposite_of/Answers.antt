use Rattle.std.proofs.Common.{sym}
use Rattle.tables.proofs.Tallying.{not_there, not_back, faces}
use Rattle.tables.proofs.edges.Seams.opposite_of.Goals as goal

pub returns-in_err-lone : goal.returns-in_err-lone
returns-in_err-lone c =
    rw c.from_residual.ensures (not_there _ _ _ c.args.self.now.seamed.bounded c.requires.tallied c.args.e c.requires.within (sym c.in_err-lone.ensures))

pub returns-in_err-opposite : goal.returns-in_err-opposite
returns-in_err-opposite c =
    rw c.from_residual-in_err-opposite.ensures
    (not_back _ _ _ c.args.self.now.seamed.bounded c.requires.tallied c.args.e c.requires.within (sym c.in_err-opposite.ensures))

pub returns-else-a-b : goal.returns-else-a-b
returns-else-a-b c =
    faces _ _ _ c.args.self.now.seamed.bounded c.requires.tallied c.args.e c.requires.within
    c.if-a-b.false _ _ (sym c.in_ok-lone.ensures) (sym c.in_ok-opposite.ensures)
