-- Where the entries stand in the edge table. It does not ask which labels there are.
use Rattle.std.specs.Prelude.{ℕ, ◌+◌, ◌<◌, ◌≤◌, List, length, slice_index_or}
use Rattle.std.specs.List.{between}
use Rattle.stored.specs.declared.record.Edge.{Edge}
use Rattle.entries.specs.declared.record.Entry.{Entry}
use Rattle.entries.specs.Chains.{record_at}

-- the edges of an entry
abbrev pub edges_of : {L : Type 0} → List (Edge L) → Entry → List (Edge L)
edges_of table r = between r.start (r.start + r.edges) table

-- Each entry has edges, no more than a block may have, and they stand among the first `used`.
abbrev pub Sized : List Entry → ℕ → Type 0
Sized entries used =
    (k : ℕ) → k < length entries
    → (1 ≤ (record_at entries k).edges) × ((record_at entries k).edges ≤ 480) × ((record_at entries k).start + (record_at entries k).edges ≤ used)

-- What an edge of an entry names, its next edge or its opposite, is among the entry's.
abbrev pub Linked : {L : Type 0} → (Edge L → ℕ) → List (Edge L) → List Entry → Type 0
Linked {L} names table entries =
    (k e : ℕ) (d : Edge L) → (k < length entries) × (e < (record_at entries k).edges) → names (slice_index_or table ((record_at entries k).start + e) d) < (record_at entries k).edges

-- All entries stand among the first `used` edges of the table.
pub record Spanned {L : Type 0} (table : List (Edge L)) (entries : List Entry) (used : ℕ) : Type 0 where
  pub within : used ≤ length table
  pub few : used ≤ 4096
  pub sized : Sized entries used
  pub next_linked : Linked (λ r. r.next) table entries
  pub opposite_linked : Linked (λ r. r.opposite) table entries
