-- The law over rows of calls.
use Rattle.std.proofs.Common.{◌≡◌, ℕ, ◌+◌, ◌<◌, ◌≤◌, Bool, T, List, [], ◌∷◌, ◌++◌, length, get_or, Some, None, Ok, Err, Option, sym, refl, ap, ◌∙◌, subst, inl, inr, append_assoc, append-nil, arith, length-append}
use Rattle.std.proofs.lemmas.List.{get_or_append_left, get_or_push}
use Rattle.std.proofs.lemmas.Bool.{cases_lt}
use Rattle.drawing.specs.Nets.{Net, edges}
use Rattle.block.specs.Checked.{Checked}
use Rattle.label.specs.Measured.{measure}
use Rattle.calls.specs.Entries.{entry, Known}
use Rattle.calls.specs.Answers.{Standing, found, ended, First, LowestInPart}
use Rattle.calls.specs.Rows.{Event, entered, opened, stepped, strayed, kin, part, State, fresh, Turn, Row, Enters, standings, Lays, listings, no_lays, handed, Named, EndsWhenOut, AtPlace, RowsKeepTheLaw}
use Rattle.calls.proofs.Entering.{AllChecked, known_stays, entry_stays, enters_on, enters_once}
use Rattle.calls.proofs.Families.{first_stays, one_family}
use Rattle.calls.proofs.Parts.{part_stays, shared_part, one_part}
use Rattle.calls.proofs.Listed.{Going, going_stays, all_out, some_left}
use Rattle.calls.proofs.Turning.{listings_on, handed_on, standings_on, handed_same, as_many_standings, grown, as_told, quiet_turn, Begun, begun, turned}

abbrev lays_at : List Event → ℕ → Lays
lays_at past k = get_or (listings past) k no_lays

module _ {L : Type 0} (label : Net → ℕ → L) (same : L → L → Bool) (capacity : ℕ) where
  abbrev GoingAt : List Event → State → ℕ → Type 0
  GoingAt past s k = Going label same s.nets (lays_at past k) (handed s.nets k (lays_at past k) past) (get_or s.listings k None)

  -- What holds between the calls: the state is what the calls so far tell.
  record SoFar (past : List Event) (s : State) : Type 0 where
    enters : Enters capacity [] past s.nets
    checked : AllChecked s.nets
    standing : s.listings ≡ standings [] past
    many : length s.listings ≡ length (listings past)
    quiet : (nets : List Net) (k : ℕ) (lays : Lays) → length (listings past) ≤ k → handed nets k lays past ≡ []
    going : (k : ℕ) → k < length (listings past) → GoingAt past s k

  at_start : SoFar [] fresh
  at_start = record {
    enters = refl;
    checked = λ i k. absurd (omega (arith, k.from_one, k.to_last));
    standing = refl;
    many = refl;
    quiet = λ nets k lays le. refl;
    going = λ k lt. absurd (omega arith);
  }

  -- ---- one more call

  going_grown : (nets all new : List Net) (k : ℕ) (lays : Lays) (es : List Event) (o : Option Standing) → all ≡ nets ++ new → Going label same nets lays (handed nets k lays es) o → Going label same all lays (handed all k lays es) o
  going_grown nets all new k lays es o is h =
      let as_before : edges (entry nets lays.from) ≡ edges (entry (nets ++ new) lays.from) = sym (ap edges (entry_stays nets new lays.from h.from_known)) in
      rw (is, sym (handed_same nets (nets ++ new) k lays es as_before)) (going_stays label same nets new lays (handed nets k lays es) o h)

  module _ (past : List Event) (s u : State) (e : Event) (v : SoFar past s) (turn : Turn label same capacity s e u) where
    abbrev now : List Event
    now = past ++ (e ∷ [])

    more_listings : length (listings now) ≡ length (listings past) + length (listings (e ∷ []))
    more_listings = ap length (listings_on past (e ∷ [])) ∙ length-append (listings past) (listings (e ∷ []))

    still_quiet : (nets : List Net) (k : ℕ) (lays : Lays) → length (listings past) ≤ k → handed nets k lays now ≡ []
    still_quiet nets k lays le =
        let old = v.quiet nets k lays le in
        let new = quiet_turn label same capacity s u e turn nets k lays (omega (arith, v.many)) in
        handed_on nets k lays past (e ∷ []) ∙ (rw (old, new) refl)

    -- a listing that was there
    old_going : (k : ℕ) → k < length (listings past) → GoingAt now u k
    old_going k lt =
        let g = grown label same capacity s u e turn in
        let lays : Lays = lays_at past k in
        let lays_same : lays_at now k ≡ lays = ap (λ z. get_or z k no_lays) (listings_on past (e ∷ [])) ∙ get_or_append_left (listings past) (listings (e ∷ [])) no_lays k lt in
        let stays : Going label same s.nets lays (handed s.nets k lays now) (get_or u.listings k None) =
        rw (handed_on s.nets k lays past (e ∷ [])) (turned label same capacity s u k lays (handed s.nets k lays past) (omega (arith, v.many)) v.checked (v.going k lt) e turn) in
        rw lays_same (going_grown s.nets u.nets g.new k lays now (get_or u.listings k None) g.nets_are stays)

    -- the listing that the call opens
    new_going : Begun label same capacity s e u → (k : ℕ) → k ≡ length (listings past) → GoingAt now u k
    new_going b k is =
        let g = grown label same capacity s u e turn in
        let lays_is : lays_at now k ≡ b.lays = ap (λ z. get_or z k no_lays) (listings_on past (e ∷ []) ∙ ap (λ z. listings past ++ z) b.listings_are) ∙ get_or_push (listings past) b.lays no_lays k (sym is) in
        let stands : get_or u.listings k None ≡ Some b.standing = ap (λ z. get_or z k None) b.added ∙ get_or_push s.listings (Some b.standing) None k (v.many ∙ sym is) in
        let nothing : handed s.nets k b.lays now ≡ [] = still_quiet s.nets k b.lays (omega arith) in
        rw lays_is (going_grown s.nets u.nets g.new k b.lays now (get_or u.listings k None) g.nets_are (rw (nothing, stands) b.going))

    kept : SoFar now u
    kept =
        let g = grown label same capacity s u e turn in
        let told : u.listings ≡ standings s.listings (e ∷ []) = as_told label same capacity s u e turn in
        record {
          enters = enters_on capacity [] s.nets u.nets past (e ∷ []) v.enters g.enters;
          checked = g.checked v.checked;
          standing = told ∙ (ap (λ z. standings z (e ∷ [])) v.standing ∙ sym (standings_on [] past (e ∷ [])));
          many = omega (arith, ap length told, as_many_standings s.listings e, v.many, more_listings);
          quiet = λ nets k lays le. still_quiet nets k lays (omega (arith, more_listings));
          going = λ k lt. elim (cases_lt k (length (listings past))) [
            | inl old ↦ old_going k old
            | inr new ↦ elim (begun label same capacity s u e v.checked turn) [
              | inl none ↦ absurd (omega (arith, more_listings, ap length none))
              | inr b ↦ new_going b k (omega (arith, more_listings, ap length b.listings_are))
            ]
          ];
        }

  -- ---- what a place of a row says

  named : (past : List Event) (s u : State) (e : Event) → SoFar past s → Turn label same capacity s e u → Named label same capacity s.nets (standings [] past) e
  named past s u (entered t r) v h = (u.nets, h.0)
  named past s u (opened i j r) v h = h.0
  named past s u (stepped k b r c) v h = (h.0, ap (λ z. get_or z k None) (sym v.standing) ∙ h.1, h.2)
  named past s u (strayed l b r c) v h = h.0
  named past s u (kin i r) v h = h.0
  named past s u (part i e r) v h = h.0

  ends_when_out : (past : List Event) (s u : State) (e : Event) (v : SoFar past s) → Turn label same capacity s e u → (k : ℕ) (lt : k < length (listings past)) → EndsWhenOut label same k (v.going k lt).so_far.images (handed s.nets k (lays_at past k) past) e
  ends_when_out past s u (entered t r) v h k lt = tt
  ends_when_out past s u (opened i j r) v h k lt = tt
  ends_when_out past s u (stepped j b (Ok (found g m)) c) v h k lt = λ is.
      some_left label same s.nets (lays_at past k) (handed s.nets k (lays_at past k) past) (get_or s.listings k None) h.0 (rw is at h.1) v.checked (v.going k lt) b c g m h.2
  ends_when_out past s u (stepped j b (Ok (ended n)) c) v h k lt = λ is.
      all_out label same s.nets (lays_at past k) (handed s.nets k (lays_at past k) past) (get_or s.listings k None) h.0 (rw is at h.1) v.checked (v.going k lt) b c n h.2
  ends_when_out past s u (stepped j b (Err f) c) v h k lt = tt
  ends_when_out past s u (strayed l b r c) v h k lt = tt
  ends_when_out past s u (kin i r) v h k lt = tt
  ends_when_out past s u (part i e r) v h k lt = tt

  -- A place of a row: the states about the call, and the entries that the rest of the row enters.
  record Placed (before : List Event) (e : Event) (last : List Net) : Type 0 where
    s : State
    u : State
    so_far : SoFar before s
    turn : Turn label same capacity s e u
    new : List Net
    last_is : last ≡ s.nets ++ new

  at_place : (before : List Event) (e : Event) (last : List Net) → Placed before e last → AtPlace label same capacity before e
  at_place before e last p =
      let v = p.so_far in
      record {
        nets = p.s.nets;
        enters = v.enters;
        named = named before p.s p.u e v p.turn;
        listed = λ k lt. (v.going k lt).so_far;
        ends = ends_when_out before p.s p.u e v p.turn;
      }

  -- what kin and part answered holds at the end of the row
  first_at_last : (before : List Event) (i f m : ℕ) (last : List Net) → Placed before (kin i (Ok (f, m))) last → Known last i × First label same last i f
  first_at_last before i f m last p =
      let r = p.turn.0 in
      rw p.last_is (known_stays p.s.nets p.new i r.known, first_stays label same p.s.nets p.new i f r.known r.first)

  lowest_at_last : (before : List Event) (i e q : ℕ) (last : List Net) → Placed before (part i e (Ok q)) last → LowestInPart label same last i e q
  lowest_at_last before i e q last p = rw p.last_is (part_stays label same p.s.nets p.new i e q p.turn.0)

  -- ---- along a row

  -- the state after a row
  abbrev after : (s : State) (es : List Event) → Row label same capacity s es → State
  after s [] row = s
  after s (e ∷ es) row = after row.0 es row.2

  entered_after : (s : State) (es : List Event) (row : Row label same capacity s es) → (new : List Net) × ((after s es row).nets ≡ s.nets ++ new)
  entered_after s [] row = ([], sym (append-nil s.nets))
  entered_after s (e ∷ es) row =
      let g = grown label same capacity s row.0 e row.1 in
      let (rest, is) = entered_after row.0 es row.2 in
      (g.new ++ rest, is ∙ (ap (λ z. z ++ rest) g.nets_are ∙ append_assoc s.nets g.new rest))

  so_far_after : (past : List Event) (s : State) (es : List Event) (row : Row label same capacity s es) → SoFar past s → SoFar (past ++ es) (after s es row)
  so_far_after past s [] row v = subst (λ p. SoFar p s) (sym (append-nil past)) v
  so_far_after past s (e ∷ es) row v =
      subst (λ p. SoFar p (after row.0 es row.2)) (append_assoc past (e ∷ []) es) (so_far_after (past ++ (e ∷ [])) row.0 es row.2 (kept past s row.0 e v row.1))

  placed : (past : List Event) (s : State) (es : List Event) (row : Row label same capacity s es) → SoFar past s → (front back : List Event) (e : Event) → es ≡ front ++ (e ∷ back) → Placed (past ++ front) e (after s es row).nets
  placed past s [] row v [] back e is = absurd (let z : ◌≡◌ {A = ℕ} 0 1 = cc in omega arith)
  placed past s [] row v (y ∷ front) back e is = absurd (let z : ◌≡◌ {A = ℕ} 0 1 = cc in omega arith)
  placed past s (x ∷ es) row v [] back e is =
      let here : x ≡ e = cc in
      let (new, last_is) = entered_after s (x ∷ es) row in
      record {
        s = s;
        u = row.0;
        so_far = subst (λ p. SoFar p s) (sym (append-nil past)) v;
        turn = subst (λ y. Turn label same capacity s y row.0) here row.1;
        new = new;
        last_is = last_is;
      }
  placed past s (x ∷ es) row v (y ∷ front) back e is =
      let here : x ≡ y = cc in
      let there : es ≡ front ++ (e ∷ back) = cc in
      subst (λ p. Placed p e (after row.0 es row.2).nets) (append_assoc past (x ∷ []) front ∙ ap (λ z. past ++ (z ∷ front)) here)
      (placed (past ++ (x ∷ [])) row.0 es row.2 (kept past s row.0 x v row.1) front back e there)

-- ---- the law

module _ {L : Type 0} (label : Net → ℕ → L) (same : L → L → Bool) (measured : Bool) (reflexive : (x : L) → T (same x x)) (symmetric : (x y : L) → T (same x y) → T (same y x)) (transitive : (x y z : L) → T (same x y) → T (same y z) → T (same x z)) (contains : T measured → (a b : Net) (e f : ℕ) → Checked a → Checked b → e < edges a → f < edges b → T (same (label a e) (label b f)) → measure a e ≡ measure b f) where
  pub rows_keep_the_law_lem : RowsKeepTheLaw label same measured
  rows_keep_the_law_lem capacity es row =
      let last = after label same capacity fresh es row in
      let v = so_far_after label same capacity [] fresh es row (at_start label same capacity) in
      let at = placed label same capacity [] fresh es row (at_start label same capacity) in
      record {
        nets = last.nets;
        enters = v.enters;
        only = λ other h. enters_once capacity [] other last.nets es h v.enters;
        listed = λ k lt. (v.going k lt).so_far;
        places = λ before rest e is. at_place label same capacity before e last.nets (at before rest e is);
        families = λ i j f g m n a b c d is-a is_c.
            let x = first_at_last label same capacity a i f m last.nets (at a b (kin i (Ok (f, m))) is-a) in
            let y = first_at_last label same capacity c j g n last.nets (at c d (kin j (Ok (g, n))) is_c) in
            one_family label same reflexive symmetric transitive last.nets v.checked i j f g x.0 y.0 x.1 y.1;
        shared = λ i j e h p q a b c d is-a is_c.
            shared_part label same reflexive symmetric transitive last.nets i j e h p q
            (lowest_at_last label same capacity a i e p last.nets (at a b (part i e (Ok p)) is-a))
            (lowest_at_last label same capacity c j h q last.nets (at c d (part j h (Ok q)) is_c));
        parts = λ yes i j e h p q a b c d is-a is_c.
            one_part label same reflexive symmetric transitive last.nets (contains yes) v.checked i j e h p q
            (lowest_at_last label same capacity a i e p last.nets (at a b (part i e (Ok p)) is-a))
            (lowest_at_last label same capacity c j h q last.nets (at c d (part j h (Ok q)) is_c));
      }
