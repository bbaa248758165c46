use Rattle.std.proofs.Common.{◌≡◌, ℕ, ◌+◌, ◌<◌, length, get_or, take}
use Rattle.stored.specs.declared.record.Edge.{Edge}
use Rattle.stored.specs.Records.{Holds}
use Rattle.stored.proofs.table.Table.store.Given as goal

abbrev pub invariant-loop-e : goal.invariant-loop-e
invariant-loop-e g l =
    (length l.self.edges.now ≡ length l.initial.self.edges.now)
    × (take l.start l.self.edges.now ≡ take l.start l.initial.self.edges.now)
    × ((d : Edge g.row.K-Label.Denot) (k : ℕ) → k < l.e → Holds g.K.Kind.label l.block k (get_or l.self.edges.now (l.start + k) d))
    × (l.self.edges.ghost_name ≡ l.initial.self.edges.ghost_name)
