-- What the calls read of a catalogue that holds these blocks.
use Rattle.std.proofs.Common.{◌≡◌, ℕ, ◌+◌, ◌-◌, ◌≤◌, Bool, List, length, get_or, ap, ◌∙◌, arith}
use Rattle.drawing.specs.Nets.{Net, edges}
use Rattle.stored.specs.declared.record.Edge.{Edge}
use Rattle.entries.specs.declared.record.Entry.{Entry}
use Rattle.entries.specs.Chains.{record_at}
use Rattle.calls.specs.Entries as called
use Rattle.calls.specs.Entries.{entry, Known}
use Rattle.calls.specs.Answers.{Related, LowestInPart}
use Rattle.holding.specs.Held.{Held}

module _ {L : Type 0} {label : Net → ℕ → L} {same : L → L → Bool} {table : List (Edge L)} {entries : List Entry} {nets : List Net} {used : ℕ} (h : Held label same table entries nets used) where
  pub known : {i : ℕ} → 1 ≤ i → i ≤ length entries → Known nets i
  known from to = record { from_one = from; to_last = omega (arith, h.count_is) }

  pub unknown : {i : ℕ} → (1 ≤ i → i ≤ length entries → ⊥) → Known nets i → ⊥
  unknown none k = none k.from_one (omega (arith, h.count_is, k.to_last))

  module _ {i : ℕ} (k : Known nets i) (r : Entry) (is : r ≡ record_at entries (i - 1)) where
    pub related : Related label same nets i (r.first, r.next)
    related = record { known = k; first = rw is (h.each i k).first; next = rw is (h.each i k).next }

    pub edges_told : r.edges ≡ edges (entry nets i)
    edges_told = ap (λ (x : Entry). x.edges) is ∙ (h.each i k).edges_is

    pub lowest_in_part : {e : ℕ} (d : Edge L) → 1 ≤ e → e ≤ r.edges → LowestInPart label same nets i e (get_or table (r.start + (e - 1)) d).part
    lowest_in_part {e} d from to =
        let edge : called.Edge (entry nets i) e = record { from_one = from; to_last = omega (arith, edges_told) } in
        rw is ((h.each i k).parts e d edge)

    pub no_edge : {e : ℕ} → (1 ≤ e → e ≤ r.edges → ⊥) → called.Edge (entry nets i) e → ⊥
    no_edge none x = none x.from_one (omega (arith, edges_told, x.to_last))
