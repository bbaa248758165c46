-- What the records of an edge table say of the net of a block.
use Rattle.std.specs.Prelude.{◌≡◌, ℕ, ◌+◌, ◌<◌, List, length, get_or, take, slice_index_or}
use Rattle.drawing.specs.Lists.{at}
use Rattle.drawing.specs.declared.step.Step.{Step}
use Rattle.drawing.specs.declared.step.Step.TheVariants.{Along, Across}
use Rattle.drawing.specs.Nets.{Net, no_point, edges, start, next, opposite, point_at}
use Rattle.stored.specs.declared.record.Edge.{Edge}

abbrev pub blank_edge : {L : Type 0} → L → Edge L
blank_edge none = record { point = 0; place = no_point; mark = 0; next = 0; opposite = 0; part = 0; label = none }

-- where a step leads from the edge of a record
abbrev pub step_of : {L : Type 0} → Step → Edge L → ℕ
step_of Along r = r.next
step_of Across r = r.opposite

-- The record holds the edge e of the net: where it starts, its mark, its next edge, its opposite and its label.
pub record Holds {L : Type 0} (label : Net → ℕ → L) (m : Net) (e : ℕ) (r : Edge L) : Type 0 where
  pub point_is : r.point ≡ start m e
  pub place_is : r.place ≡ point_at m (start m e)
  pub mark_is : r.mark ≡ at m.marks e
  pub next_is : r.next ≡ next m e
  pub opposite_is : r.opposite ≡ opposite m e
  pub label_is : r.label ≡ label m e

-- These records are the edges of the net, in order.
pub record Shows {L : Type 0} (label : Net → ℕ → L) (m : Net) (es : List (Edge L)) : Type 0 where
  pub size : length es ≡ edges m
  pub holds : (e : ℕ) (d : Edge L) → e < edges m → Holds label m e (slice_index_or es e d)

-- Next edges and opposites are among these records. It does not ask which labels there are.
pub record Wired {L : Type 0} (es : List (Edge L)) : Type 0 where
  pub next_within : (e : ℕ) (d : Edge L) → e < length es → (get_or es e d).next < length es
  pub opposite_within : (e : ℕ) (d : Edge L) → e < length es → (get_or es e d).opposite < length es

-- The edges of the net are written from the index `start` on, and those before are as they were.
pub record Stored {L : Type 0} (label : Net → ℕ → L) (m : Net) (start : ℕ) (before after : List (Edge L)) : Type 0 where
  pub size : length after ≡ length before
  pub kept : take start after ≡ take start before
  pub holds : (e : ℕ) (d : Edge L) → e < edges m → Holds label m e (slice_index_or after (start + e) d)

-- the record, with another part
abbrev pub with_part : {L : Type 0} → Edge L → ℕ → Edge L
with_part r p = record { point = r.point; place = r.place; mark = r.mark; next = r.next; opposite = r.opposite; part = p; label = r.label }

-- The parts are written from the index `start` on; nothing else is changed there or before.
pub record Parted {L : Type 0} (start : ℕ) (parts : List ℕ) (before after : List (Edge L)) : Type 0 where
  pub size : length after ≡ length before
  pub kept : take start after ≡ take start before
  pub written : (e : ℕ) (d : Edge L) → e < length parts → slice_index_or after (start + e) d ≡ with_part (slice_index_or before (start + e) d) (at parts e)
