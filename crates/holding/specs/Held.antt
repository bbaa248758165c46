-- What it is for a catalogue to hold these blocks, in this order: each net in the edge table, with its labels and parts, and each entry's family.
use Rattle.std.specs.Prelude.{◌≡◌, ℕ, ◌+◌, ◌-◌, Bool, List, length, take, slice_index_or}
use Rattle.drawing.specs.Nets.{Net, edges}
use Rattle.block.specs.Checked.{Checked}
use Rattle.stored.specs.declared.record.Edge.{Edge}
use Rattle.stored.specs.Records.{Shows}
use Rattle.entries.specs.declared.record.Entry.{Entry}
use Rattle.entries.specs.Chains.{record_at}
use Rattle.calls.specs.Entries as called
use Rattle.calls.specs.Entries.{entry, Known, held, running}
use Rattle.calls.specs.Answers.{First, Next, LowestInPart}
use Rattle.holding.specs.Spans.{edges_of}

module _ {L : Type 0} (label : Net → ℕ → L) (same : L → L → Bool) (table : List (Edge L)) (entries : List Entry) (nets : List Net) where
  -- The entry of this number holds its net.
  pub record Holds (i : ℕ) : Type 0 where
    pub checked : Checked (entry nets i)
    pub start_is : (record_at entries (i - 1)).start ≡ held (take (i - 1) nets)
    pub edges_is : (record_at entries (i - 1)).edges ≡ edges (entry nets i)
    pub shows : Shows label (entry nets i) (edges_of table (record_at entries (i - 1)))
    pub first : First label same nets i (record_at entries (i - 1)).first
    pub next : Next label same nets i (record_at entries (i - 1)).next
    pub parts : (e : ℕ) (d : Edge L) → called.Edge (entry nets i) e → LowestInPart label same nets i e (slice_index_or table ((record_at entries (i - 1)).start + (e - 1)) d).part

  pub record Held (used : ℕ) : Type 0 where
    pub count_is : length entries ≡ length nets
    pub used_is : used ≡ held nets
    pub each : (i : ℕ) → Known nets i → Holds i
