use Rattle.std.proofs.Common.{ap, arith}
use Rattle.std.proofs.lemmas.List.{get_or-replicate}
use Rattle.entries.specs.declared.record.Entry.{Entry}
use Rattle.entries.specs.Chains.{no_entry}
use Rattle.entries.proofs.register.Register.new.Goals as goal

pub invariant_of-result-clause-chained : goal.invariant_of-result-clause-chained
invariant_of-result-clause-chained c k h next =
    absurd (omega (arith, c.default.ensures.1.1.1, ap (λ (e : Entry). e.next) (get_or-replicate 64 k c.default.result no_entry h)))
