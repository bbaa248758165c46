-- What one call of a row does to the entries and to the listings.
use Rattle.std.proofs.Common.{◌≡◌, ℕ, ◌+◌, ◌<◌, ◌≤◌, Bool, cond, eqb, ◌⊎◌, List, [], ◌∷◌, ◌++◌, length, get_or, take, set, Some, None, Ok, Err, Option, sym, refl, ap, ◌∙◌, subst, inl, inr, append-nil, add-zero, arith, length-append, length-set}
use lib.ListN.{get_or-eq_default}
use Rattle.std.proofs.lemmas.List.{get_or_append_left, get_or-set_same, get_or-set_other, set-get_or}
use Rattle.std.proofs.lemmas.Bool.{cases_lt, cases_eq, cond-true, cond-false, eq-eqb, ne_eqb}
use Rattle.std.proofs.lemmas.Grind.{flat_map-append}
use Rattle.drawing.specs.Nets.{Net, edges}
use Rattle.calls.specs.Entries.{entry}
use Rattle.calls.specs.Answers.{Standing, found, ended}
use Rattle.calls.specs.Rows.{Event, entered, opened, stepped, strayed, kin, part, State, Turn, Enters, more, standings, Lays, listings, handed}
use Rattle.calls.proofs.Entering.{AllChecked, checked_push, turned_away}
use Rattle.calls.proofs.Listed.{Going, going_opened, going_ended, going_on}

-- ---- lists of calls, one after another

pub listings_on : (es fs : List Event) → listings (es ++ fs) ≡ listings es ++ listings fs
listings_on es fs = flat_map-append _ es fs

pub handed_on : (nets : List Net) (k : ℕ) (lays : Lays) (es fs : List Event) → handed nets k lays (es ++ fs) ≡ handed nets k lays es ++ handed nets k lays fs
handed_on nets k lays es fs = flat_map-append _ es fs

pub standings_on : (ss : List (Option Standing)) (es fs : List Event) → standings ss (es ++ fs) ≡ standings (standings ss es) fs
standings_on ss [] fs = refl
standings_on ss (entered t r ∷ es) fs = standings_on ss es fs
standings_on ss (opened i j r ∷ es) fs = standings_on (ss ++ more r) es fs
standings_on ss (stepped k b r c ∷ es) fs = standings_on (set ss k _) es fs
standings_on ss (strayed l b r c ∷ es) fs = standings_on ss es fs
standings_on ss (kin i r ∷ es) fs = standings_on ss es fs
standings_on ss (part i e r ∷ es) fs = standings_on ss es fs

-- what a listing handed out is read by the edge count of its first entry
pub handed_same : (nets other : List Net) (k : ℕ) (lays : Lays) (es : List Event) → edges (entry nets lays.from) ≡ edges (entry other lays.from) → handed nets k lays es ≡ handed other k lays es
handed_same nets other k lays [] is = refl
handed_same nets other k lays (entered t r ∷ es) is = handed_same nets other k lays es is
handed_same nets other k lays (opened i j r ∷ es) is = handed_same nets other k lays es is
handed_same nets other k lays (stepped h b (Ok (found g s)) c ∷ es) is =
    ap (λ n. cond (eqb h k) (take n c.images ∷ []) [] ++ handed nets k lays es) is
    ∙ ap (λ z. cond (eqb h k) (take (edges (entry other lays.from)) c.images ∷ []) [] ++ z) (handed_same nets other k lays es is)
handed_same nets other k lays (stepped h b (Ok (ended n)) c ∷ es) is = handed_same nets other k lays es is
handed_same nets other k lays (stepped h b (Err f) c ∷ es) is = handed_same nets other k lays es is
handed_same nets other k lays (strayed l b r c ∷ es) is = handed_same nets other k lays es is
handed_same nets other k lays (kin i r ∷ es) is = handed_same nets other k lays es is
handed_same nets other k lays (part i e r ∷ es) is = handed_same nets other k lays es is

-- ---- the listings that a row has

pub some_within : (ss : List (Option Standing)) (k : ℕ) (l : Standing) → get_or ss k None ≡ Some l → k < length ss
some_within ss k l e = elim (cases_lt k (length ss)) [
  | inl lt ↦ lt
  | inr le ↦ let d : get_or ss k None ≡ None = get_or-eq_default ss None le in let z : ◌≡◌ {A = ℕ} 0 1 = cc in absurd (omega arith)
]

-- a listing is added for each that is opened
pub as_many_standings : (ss : List (Option Standing)) (e : Event) → length (standings ss (e ∷ [])) ≡ length ss + length (listings (e ∷ []))
as_many_standings ss (entered t r) = omega arith
as_many_standings ss (opened i j (Ok s)) = length-append ss (Some s ∷ [])
as_many_standings ss (opened i j (Err f)) = length-append ss []
as_many_standings ss (stepped k b r c) = length-set ss k _ ∙ sym (add-zero (length ss))
as_many_standings ss (strayed l b r c) = omega arith
as_many_standings ss (kin i r) = omega arith
as_many_standings ss (part i e r) = omega arith

module _ {L : Type 0} (label : Net → ℕ → L) (same : L → L → Bool) (capacity : ℕ) where
  -- the entries after a call
  pub record Grown (s : State) (e : Event) (u : State) : Type 0 where
    pub new : List Net
    pub nets_are : u.nets ≡ s.nets ++ new
    pub enters : Enters capacity s.nets (e ∷ []) u.nets
    pub checked : AllChecked s.nets → AllChecked u.nets

  unchanged : (s u : State) (e : Event) → u.nets ≡ s.nets → Enters capacity s.nets (e ∷ []) u.nets → Grown s e u
  unchanged s u e is enters = record { new = []; nets_are = is ∙ sym (append-nil s.nets); enters = enters; checked = λ all. subst AllChecked (sym is) all }

  pub grown : (s u : State) (e : Event) → Turn label same capacity s e u → Grown s e u
  grown s u (entered t (Ok n)) h =
      let net = h.0.net in
      record {
        new = net ∷ [];
        nets_are = h.0.after_is;
        enters = inl (net, h.0.accepted, sym h.0.after_is);
        checked = λ all. subst AllChecked (sym h.0.after_is) (checked_push s.nets net all h.0.accepted.checked);
      }
  grown s u (entered t (Err f)) h = unchanged s u (entered t (Err f)) h.0.1 (inr (turned_away capacity s.nets t f h.0.0, sym h.0.1))
  grown s u (opened i j r) h = unchanged s u (opened i j r) h.1 (sym h.1)
  grown s u (stepped k b r c) h = unchanged s u (stepped k b r c) h.3 (sym h.3)
  grown s u (strayed l b r c) h = unchanged s u (strayed l b r c) h.1 (sym h.1)
  grown s u (kin i r) h = unchanged s u (kin i r) h.1 (sym h.1)
  grown s u (part i e r) h = unchanged s u (part i e r) h.1 (sym h.1)

  -- the listings after a call are as the call alone says
  pub as_told : (s u : State) (e : Event) → Turn label same capacity s e u → u.listings ≡ standings s.listings (e ∷ [])
  as_told s u (entered t r) h = h.1
  as_told s u (opened i j r) h = h.2
  as_told s u (stepped k b r c) h = rw h.1 h.4
  as_told s u (strayed l b r c) h = h.2
  as_told s u (kin i r) h = h.2
  as_told s u (part i e r) h = h.2

  -- a listing that is not there hands nothing out
  pub quiet_turn : (s u : State) (e : Event) → Turn label same capacity s e u → (nets : List Net) (k : ℕ) (lays : Lays) → length s.listings ≤ k → handed nets k lays (e ∷ []) ≡ []
  quiet_turn s u (entered t r) h nets k lays le = refl
  quiet_turn s u (opened i j r) h nets k lays le = refl
  quiet_turn s u (stepped j b (Ok (found g m)) c) h nets k lays le =
      ap (λ z. z ++ []) (cond-false (eqb j k) _ [] (ne_eqb j k (λ is. let lt : j < length s.listings = some_within s.listings j h.0 h.1 in omega arith)))
  quiet_turn s u (stepped j b (Ok (ended n)) c) h nets k lays le = refl
  quiet_turn s u (stepped j b (Err f) c) h nets k lays le = refl
  quiet_turn s u (strayed l b r c) h nets k lays le = refl
  quiet_turn s u (kin i r) h nets k lays le = refl
  quiet_turn s u (part i e r) h nets k lays le = refl

  -- the listing that a call opens
  pub record Begun (s : State) (e : Event) (u : State) : Type 0 where
    pub lays : Lays
    pub standing : Standing
    pub listings_are : listings (e ∷ []) ≡ lays ∷ []
    pub added : u.listings ≡ s.listings ++ (Some standing ∷ [])
    pub going : Going label same s.nets lays [] (Some standing)

  pub begun : (s u : State) (e : Event) → AllChecked s.nets → Turn label same capacity s e u → (listings (e ∷ []) ≡ []) ⊎ Begun s e u
  begun s u (entered t r) all h = inl refl
  begun s u (opened i j (Ok l)) all h =
      let lays : Lays = record { from = i; to = j } in
      inr (record {
        lays = lays;
        standing = l;
        listings_are = refl;
        added = h.2;
        going = rw h.0.stands (going_opened label same s.nets lays all h.0.from_known h.0.to_known);
      })
  begun s u (opened i j (Err f)) all h = inl refl
  begun s u (stepped k b r c) all h = inl refl
  begun s u (strayed l b r c) all h = inl refl
  begun s u (kin i r) all h = inl refl
  begun s u (part i e r) all h = inl refl

  -- ---- a listing of the row, over a call
  module _ (s u : State) (k : ℕ) (lays : Lays) (out : List (List ℕ)) (within : k < length s.listings) (checked : AllChecked s.nets) (going : Going label same s.nets lays out (get_or s.listings k None)) where
    -- it hands nothing out, and is left where it stood
    still : (none : List (List ℕ)) → none ≡ [] → get_or u.listings k None ≡ get_or s.listings k None → Going label same s.nets lays (out ++ none) (get_or u.listings k None)
    still none is left = rw (is, append-nil out, left) going

    -- the call leaves the listing j at x
    module _ (j : ℕ) (x : Option Standing) (after : u.listings ≡ set s.listings j x) where
      left_at : j ≡ k → get_or u.listings k None ≡ x
      left_at is = ap (λ z. get_or z k None) after ∙ (rw is (get_or-set_same s.listings k x None within))

      left_alone : (j ≡ k → ⊥) → get_or u.listings k None ≡ get_or s.listings k None
      left_alone ne = ap (λ z. get_or z k None) after ∙ get_or-set_other s.listings j k x None (λ is. ne (sym is))

    pub turned : (e : Event) → Turn label same capacity s e u → Going label same s.nets lays (out ++ handed s.nets k lays (e ∷ [])) (get_or u.listings k None)
    turned (entered t r) h = still [] refl (ap (λ z. get_or z k None) h.1)
    turned (opened i j r) h = still [] refl (ap (λ z. get_or z k None) h.2 ∙ get_or_append_left s.listings (more r) None k within)
    turned (stepped j b (Ok (found g m)) c) h = elim (cases_eq j k) [
      | inl is ↦
          let one = ap (λ z. z ++ []) (cond-true (eqb j k) (take (edges (entry s.nets lays.from)) c.images ∷ []) [] (eq-eqb j k is)) in
          rw (one, left_at j (Some m) h.4 is) (going_on label same s.nets lays out (get_or s.listings k None) h.0 (rw is at h.1) checked going b c g m h.2)
      | inr ne ↦ still _ (ap (λ z. z ++ []) (cond-false (eqb j k) _ [] (ne_eqb j k ne))) (left_alone j (Some m) h.4 ne)
    ]
    turned (stepped j b (Ok (ended n)) c) h = elim (cases_eq j k) [
      | inl is ↦ rw (append-nil out, left_at j None h.4 is) (going_ended label same s.nets lays out _ going)
      | inr ne ↦ still [] refl (left_alone j None h.4 ne)
    ]
    turned (stepped j b (Err f) c) h = still [] refl (ap (λ z. get_or z k None) (h.4 ∙ (rw (sym h.1) (set-get_or s.listings j None))))
    turned (strayed l b r c) h = still [] refl (ap (λ z. get_or z k None) h.2)
    turned (kin i r) h = still [] refl (ap (λ z. get_or z k None) h.2)
    turned (part i e r) h = still [] refl (ap (λ z. get_or z k None) h.2)
