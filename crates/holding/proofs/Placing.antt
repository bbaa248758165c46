-- What stands in the edge table at the entry of an index: entries are told by numbers, from 1, and their records by indices, from 0.
use Rattle.std.proofs.Common.{◌≡◌, ℕ, ◌+◌, ◌-◌, ◌<◌, ◌≤◌, Bool, List, length, get_or, sym, ap, ◌∙◌, subst, arith}
use Rattle.std.proofs.lemmas.List.Edits.{length-between, get_or-between}
use Rattle.drawing.specs.Nets.{Net, edges}
use Rattle.block.specs.Checked.{Checked}
use Rattle.stored.specs.declared.record.Edge.{Edge}
use Rattle.stored.specs.Records.{Shows, Wired}
use Rattle.entries.specs.declared.record.Entry.{Entry}
use Rattle.entries.specs.Chains.{record_at}
use Rattle.calls.specs.Entries.{entry, Known}
use Rattle.holding.specs.Spans.{edges_of, Linked, Spanned}
use Rattle.holding.specs.Held.{Held}

-- the record of an entry's edge is that of the table
pub edge_at : {L : Type 0} (table : List (Edge L)) (r : Entry) (y : ℕ) (d : Edge L) → y < r.edges → get_or (edges_of table r) y d ≡ get_or table (r.start + y) d
edge_at table r y d lt = get_or-between table r.start (r.start + r.edges) y d (omega arith)

module _ {L : Type 0} {table : List (Edge L)} {entries : List Entry} {used : ℕ} (s : Spanned table entries used) (k : ℕ) (lt : k < length entries) where
  abbrev own : Entry
  own = record_at entries k

  pub some_edges : 1 ≤ own.edges
  some_edges = (s.sized k lt).0

  pub few_edges : own.edges ≤ 480
  few_edges = (s.sized k lt).1

  pub among_used : own.start + own.edges ≤ used
  among_used = (s.sized k lt).2

  pub in_table : own.start + own.edges ≤ length table
  in_table = omega (arith, among_used, s.within)

  pub edges_size : length (edges_of table own) ≡ own.edges
  edges_size = length-between table own.start (own.start + own.edges) in_table ∙ omega arith

  linked : (names : Edge L → ℕ) → Linked names table entries → (e : ℕ) (d : Edge L) → e < length (edges_of table own) → names (get_or (edges_of table own) e d) < length (edges_of table own)
  linked names link e d h =
      let le : e < own.edges = omega (arith, edges_size) in
      let is = ap names (edge_at table own e d le) in
      omega (arith, is, edges_size, link k e d (lt, le))

  pub edges_wired : Wired (edges_of table own)
  edges_wired = record {
    next_within = linked (λ r. r.next) s.next_linked;
    opposite_within = linked (λ r. r.opposite) s.opposite_linked;
  }

module _ {L : Type 0} {label : Net → ℕ → L} {same : L → L → Bool} {table : List (Edge L)} {entries : List Entry} {nets : List Net} {used : ℕ} (h : Held label same table entries nets used) (k : ℕ) (lt : k < length entries) where
  -- the number of the entry of an index
  pub known_at : Known nets (k + 1)
  known_at = record { from_one = omega arith; to_last = omega (arith, h.count_is) }

  index_of : record_at entries (k + 1 - 1) ≡ record_at entries k
  index_of = ap (record_at entries) (omega arith)

  pub checked_at : Checked (entry nets (k + 1))
  checked_at = (h.each (k + 1) known_at).checked

  pub edges_at : (record_at entries k).edges ≡ edges (entry nets (k + 1))
  edges_at = ap (λ (r : Entry). r.edges) (sym index_of) ∙ (h.each (k + 1) known_at).edges_is

  pub shows_at : Shows label (entry nets (k + 1)) (edges_of table (record_at entries k))
  shows_at = subst (λ r. Shows label (entry nets (k + 1)) (edges_of table r)) index_of (h.each (k + 1) known_at).shows
