-- An edge table and its entries as a block is added.
use Rattle.std.proofs.Common.{◌≡◌, ℕ, ◌+◌, ◌-◌, ◌<◌, ◌≤◌, Bool, ◌⊎◌, List, [], ◌∷◌, length, get_or, take, set, Some, None, Option, sym, refl, ap, ◌∙◌, inl, inr, arith, length-set, get_or-set_other, get_or-set_same}
use Rattle.std.proofs.lemmas.List.{get_or_append_left, get_or_push, length_push}
use Rattle.std.proofs.lemmas.Bool.{cases_lt, cases_eq}
use Rattle.drawing.specs.Nets.{Net, edges}
use Rattle.stored.specs.declared.record.Edge.{Edge}
use Rattle.entries.specs.declared.record.Entry.{Entry}
use Rattle.entries.specs.Chains.{no_entry, record_at, with_next}
use Rattle.entries.specs.Views.{begun, joined, AddedTo, joins, begins, Added}
use Rattle.calls.specs.Entries.{Known}
use Rattle.holding.specs.Spans.{Linked, Spanned}
use Rattle.holding.specs.Held.{Held}
use Rattle.holding.proofs.Keeping.{kept_at, kept_between}

-- The entries stay where they are, and one more stands behind them.
pub record Grown (entries : List Entry) (start count : ℕ) (entries' : List Entry) : Type 0 where
  pub size : length entries' ≡ length entries + 1
  pub old : (k : ℕ) → k < length entries → ((record_at entries' k).start ≡ (record_at entries k).start) × ((record_at entries' k).edges ≡ (record_at entries k).edges)
  pub new : ((record_at entries' (length entries)).start ≡ start) × ((record_at entries' (length entries)).edges ≡ count)

grown_begun : (entries : List Entry) (start count : ℕ) → Grown entries start count (begun entries start count)
grown_begun es start count =
    let e : Entry = record { start = start; edges = count; first = length es + 1; next = 0 } in
    let at_new = get_or_push es e no_entry (length es) refl in
    record {
      size = length_push es e;
      old = λ k lt. let is = get_or_append_left es (e ∷ []) no_entry k lt in (ap (λ (r : Entry). r.start) is, ap (λ (r : Entry). r.edges) is);
      new = (ap (λ (r : Entry). r.start) at_new, ap (λ (r : Entry). r.edges) at_new);
    }

grown_joined : (entries : List Entry) (start count l : ℕ) → l < length entries → Grown entries start count (joined entries start count l)
grown_joined es start count l within =
    let changed = with_next (record_at es l) (length es + 1) in
    let e : Entry = record { start = start; edges = count; first = (record_at es l).first; next = 0 } in
    let front = set es l changed in
    let n : length front ≡ length es = length-set es l changed in
    let at_new = get_or_push front e no_entry (length es) n in
    record {
      size = length_push front e ∙ ap (λ k. k + 1) n;
      old = λ k lt.
          let left = get_or_append_left front (e ∷ []) no_entry k (rw n lt) in
          elim (cases_eq k l) [
            | inl eq ↦
                let is : record_at (joined es start count l) k ≡ changed = left ∙ (ap (record_at front) eq ∙ get_or-set_same es l changed no_entry within) in
                let at_l : record_at es l ≡ record_at es k = ap (record_at es) (sym eq) in
                (ap (λ (r : Entry). r.start) is ∙ ap (λ (r : Entry). r.start) at_l, ap (λ (r : Entry). r.edges) is ∙ ap (λ (r : Entry). r.edges) at_l)
            | inr ne ↦
                let is = left ∙ get_or-set_other es l k changed no_entry ne in
                (ap (λ (r : Entry). r.start) is, ap (λ (r : Entry). r.edges) is)
          ];
      new = (ap (λ (r : Entry). r.start) at_new, ap (λ (r : Entry). r.edges) at_new);
    }

grown_to : (entries entries' : List Entry) (start count k : ℕ) → AddedTo entries start count k entries' → Grown entries start count entries'
grown_to es es' start count k (joins l last is) = rw is (grown_joined es start count l last.within)
grown_to es es' start count k (begins none is) = rw is (grown_begun es start count)

pub grown : (entries entries' : List Entry) (start count : ℕ) (family : Option ℕ) → Added entries start count family entries' → Grown entries start count entries'
grown es es' start count (Some k) a = grown_to es es' start count k a
grown es es' start count None is = rw is (grown_begun es start count)

module _ {L : Type 0} (table table' : List (Edge L)) (entries : List Entry) (used : ℕ) (size : length table' ≡ length table) (kept : take used table' ≡ take used table) where
  -- what a write beyond the used edges keeps
  module _ (s : Spanned table entries used) where
    linked_kept : (names : Edge L → ℕ) → Linked names table entries → Linked names table' entries
    linked_kept names link k e d h =
        let lt : (record_at entries k).start + e < used = omega (arith, (s.sized k h.0).2, h.1) in
        rw (kept_at used table table' kept ((record_at entries k).start + e) d lt) (link k e d h)

    pub spanned_kept : Spanned table' entries used
    spanned_kept = record {
      within = omega (arith, s.within);
      few = s.few;
      sized = s.sized;
      next_linked = linked_kept (λ r. r.next) s.next_linked;
      opposite_linked = linked_kept (λ r. r.opposite) s.opposite_linked;
    }

    -- and with one more entry
    module _ (count : ℕ) (entries' : List Entry) (g : Grown entries used count entries') (room : used + count ≤ length table) (few : used + count ≤ 4096) (some : 1 ≤ count) (most : count ≤ 480) where
      split : (k : ℕ) → k < length entries' → (k < length entries) ⊎ (k ≡ length entries)
      split k lt = elim (cases_lt k (length entries)) [ inl h ↦ inl h | inr h ↦ inr (omega (arith, g.size)) ]

      linked_more : (names : Edge L → ℕ) → Linked names table' entries → ((e : ℕ) (d : Edge L) → e < count → names (get_or table' (used + e) d) < count) → Linked names table' entries'
      linked_more names old new k e d h = elim (split k h.0) [
        | inl lt ↦
            let (start, edges) = g.old k lt in
            let le : e < (record_at entries k).edges = omega (arith, edges, h.1) in
            rw (start, edges) (old k e d (lt, le))
        | inr is ↦
            let at_k = ap (record_at entries') is in
            let start = ap (λ (r : Entry). r.start) at_k ∙ g.new.0 in
            let edges = ap (λ (r : Entry). r.edges) at_k ∙ g.new.1 in
            let le : e < count = omega (arith, edges, h.1) in
            rw (start, edges) (new e d le)
      ]

      pub spanned_more : ((e : ℕ) (d : Edge L) → e < count → (get_or table' (used + e) d).next < count) → ((e : ℕ) (d : Edge L) → e < count → (get_or table' (used + e) d).opposite < count) → Spanned table' entries' (used + count)
      spanned_more next opposite = record {
        within = omega arith;
        few = few;
        sized = λ k lt. elim (split k lt) [
          | inl old ↦ let (start, edges) = g.old k old in let (a, b, c) = s.sized k old in (omega arith, omega arith, omega arith)
          | inr is ↦
              let at_k = ap (record_at entries') is in
              let start = ap (λ (r : Entry). r.start) at_k ∙ g.new.0 in
              let edges = ap (λ (r : Entry). r.edges) at_k ∙ g.new.1 in
              (omega arith, omega arith, omega arith)
        ];
        next_linked = linked_more (λ r. r.next) (linked_kept (λ r. r.next) s.next_linked) next;
        opposite_linked = linked_more (λ r. r.opposite) (linked_kept (λ r. r.opposite) s.opposite_linked) opposite;
      }

  -- the blocks that are held stay held
  pub held_kept : {label : Net → ℕ → L} {same : L → L → Bool} {nets : List Net} → ((i : ℕ) → Known nets i → (record_at entries (i - 1)).start + (record_at entries (i - 1)).edges ≤ used) → Held label same table entries nets used → Held label same table' entries nets used
  held_kept span h = record {
    count_is = h.count_is;
    used_is = h.used_is;
    each = λ i k.
        let x = h.each i k in
        let r = record_at entries (i - 1) in
        record {
          checked = x.checked;
          start_is = x.start_is;
          edges_is = x.edges_is;
          shows = rw (kept_between used table table' kept r.start (r.start + r.edges) (span i k)) x.shows;
          first = x.first;
          next = x.next;
          parts = λ e d edge.
              let lt : r.start + (e - 1) < used = omega (arith, span i k, x.edges_is, edge.from_one, edge.to_last) in
              rw (kept_at used table table' kept (r.start + (e - 1)) d lt) (x.parts e d edge);
        };
  }
