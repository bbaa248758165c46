use Rattle.std.proofs.Common.{◌≡◌, ℕ, ◌+◌, ◌<◌, ◌≤◌, length, get_or, take}
use Rattle.drawing.specs.Lists.{at}
use Rattle.stored.specs.declared.record.Edge.{Edge}
use Rattle.stored.specs.Records.{with_part}
use Rattle.stored.proofs.table.Table.set_parts.Given as goal

abbrev pub invariant-loop-e : goal.invariant-loop-e
invariant-loop-e g l =
    (length l.self.edges.now ≡ length l.initial.self.edges.now)
    × (take l.start l.self.edges.now ≡ take l.start l.initial.self.edges.now)
    × ((d : Edge g.row.K-Label.Denot) (k : ℕ) → k < l.e → get_or l.self.edges.now (l.start + k) d ≡ with_part (get_or l.initial.self.edges.now (l.start + k) d) (at l.parts k))
    × ((d : Edge g.row.K-Label.Denot) (k : ℕ) → l.e ≤ k → get_or l.self.edges.now (l.start + k) d ≡ get_or l.initial.self.edges.now (l.start + k) d)
    × (l.self.edges.ghost_name ≡ l.initial.self.edges.ghost_name)
