use Rattle.calls.proofs.AlongRows.{rows_keep_the_law_lem}
use Rattle.calls.proofs.law.rows_keep_the_law.Goals as goal

pub returns : goal.returns
returns g c =
    rows_keep_the_law_lem g.K.Kind.label g.K.Kind.same g.K.Kind.measured g.met.K.Kind.reflexive g.met.K.Kind.symmetric g.met.K.Kind.transitive g.met.K.Kind.contains
