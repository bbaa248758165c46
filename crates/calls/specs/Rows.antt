-- Rows of calls, and what holds of every one.
use Rattle.std.specs.Prelude.{◌≡◌, ℕ, ◌+◌, ◌-◌, ◌<◌, Bool, cond, T, ◌⊎◌, List, [], ◌∷◌, ◌++◌, map, length, take, Some, None, Ok, Err, Option, Result, ◌==◌, slice_index_or, slice_set}
use Rattle.std.specs.List.{AllByRecursion, flat_map}
use Rattle.drawing.specs.Lists.{at}
use Rattle.drawing.specs.Nets.{Net, edges}
use Rattle.drawing.specs.Verdicts.{Tables}
use Rattle.pairing.specs.Parts.{Shares}
use Rattle.pairing.specs.Ways.{Kin, Carried, FirstImages, Number}
use Rattle.laying.specs.Layings.{Laid}
use Rattle.calls.specs.declared.refusal.Refusal.{Refusal}
use Rattle.calls.specs.Entries.{entry, Accepted, TurnedAway}
use Rattle.calls.specs.Answers.{Entering, Standing, Opening, Buffers, Stepped, found, ended, Stepping, Asking, Parting}

-- One call with its arguments and its answer. A step also has the buffers before and after. It names its listing by the place
-- among those that the row opened, from 0; a listing that was opened or stepped elsewhere is told by where it stands.
pub data Event : Type 0 where
  entered : Tables → Result ℕ Refusal → Event
  opened : ℕ → ℕ → Result Standing Refusal → Event
  stepped : ℕ → Buffers → Result Stepped Refusal → Buffers → Event
  strayed : Standing → Buffers → Result Stepped Refusal → Buffers → Event
  kin : ℕ → Result (ℕ × ℕ) Refusal → Event
  part : ℕ → ℕ → Result ℕ Refusal → Event

-- What is asked: a call without what it answers, and without what it leaves in the buffers.
pub data Call : Type 0 where
  enter : Tables → Call
  list : ℕ → ℕ → Call
  step : ℕ → Buffers → Call
  stray : Standing → Buffers → Call
  kin_of : ℕ → Call
  part_of : ℕ → ℕ → Call

abbrev pub call_of : Event → Call
call_of (entered t r) = enter t
call_of (opened i j r) = list i j
call_of (stepped k before r after) = step k before
call_of (strayed l before r after) = stray l before
call_of (kin i r) = kin_of i
call_of (part i e r) = part_of i e

-- What a row works on: the entries, and where each listing stands that the row opened; None once it has ended.
pub record State : Type 0 where
  pub nets : List Net
  pub listings : List (Option Standing)

-- a catalogue just opened
abbrev pub fresh : State
fresh = record { nets = []; listings = [] }

abbrev pub more : Result Standing Refusal → List (Option Standing)
more (Ok s) = Some s ∷ []
more (Err f) = []

-- where a step leaves its listing: a refusal leaves it where it stood
abbrev pub left : Standing → Result Stepped Refusal → Option Standing
left s (Ok (found g moved)) = Some moved
left s (Ok (ended count)) = None
left s (Err f) = Some s

module _ {L : Type 0} (label : Net → ℕ → L) (same : L → L → Bool) (capacity : ℕ) where
  -- One call takes the state s to t: what the call promises, and what it leaves alone.
  abbrev pub Turn : State → Event → State → Type 0
  Turn s (entered t r) u = Entering capacity s.nets t r u.nets × (u.listings ≡ s.listings)
  Turn s (opened i j r) u = Opening s.nets i j r × (u.nets ≡ s.nets) × (u.listings ≡ s.listings ++ more r)
  Turn s (stepped k before r after) u =
      (l : Standing) × (slice_index_or s.listings k None ≡ Some l) × Stepping label same s.nets l before r after
      × (u.nets ≡ s.nets) × (u.listings ≡ slice_set s.listings k (left l r))
  Turn s (strayed l before r after) u = Stepping label same s.nets l before r after × (u.nets ≡ s.nets) × (u.listings ≡ s.listings)
  Turn s (kin i r) u = Asking label same s.nets i r × (u.nets ≡ s.nets) × (u.listings ≡ s.listings)
  Turn s (part i e r) u = Parting label same s.nets i e r × (u.nets ≡ s.nets) × (u.listings ≡ s.listings)

  -- A row: calls made one after another.
  abbrev pub Row : State → List Event → Type 0
  Row s [] = Unit {0}
  Row s (e ∷ es) = (u : State) × Turn s e u × Row u es

-- ---- What a list of calls says by itself

-- The entries after these calls, from the entries before: the blocks, in order, of the enters that meet no condition of refusal.
abbrev pub Enters : ℕ → List Net → List Event → List Net → Type 0
Enters capacity before [] after = before ≡ after
Enters capacity before (entered t r ∷ es) after =
    ((m : Net) × Accepted capacity before t m × Enters capacity (before ++ (m ∷ [])) es after)
    ⊎ (TurnedAway capacity before t × Enters capacity before es after)
Enters capacity before (opened i j r ∷ es) after = Enters capacity before es after
Enters capacity before (stepped k b r c ∷ es) after = Enters capacity before es after
Enters capacity before (strayed l b r c ∷ es) after = Enters capacity before es after
Enters capacity before (kin i r ∷ es) after = Enters capacity before es after
Enters capacity before (part i e r ∷ es) after = Enters capacity before es after

-- where a listing is left that stood there, if it had not ended
abbrev left_at : Option Standing → Result Stepped Refusal → Option Standing
left_at (Some s) r = left s r
left_at None r = None

-- Where the listings that the calls opened stand after them, each as it was last left.
abbrev pub standings : List (Option Standing) → List Event → List (Option Standing)
standings ss [] = ss
standings ss (entered t r ∷ es) = standings ss es
standings ss (opened i j r ∷ es) = standings (ss ++ more r) es
standings ss (stepped k b r c ∷ es) = standings (slice_set ss k (left_at (slice_index_or ss k None) r)) es
standings ss (strayed l b r c ∷ es) = standings ss es
standings ss (kin i r ∷ es) = standings ss es
standings ss (part i e r ∷ es) = standings ss es

-- From which entry to which a listing lays.
pub record Lays : Type 0 where
  pub from : ℕ
  pub to : ℕ

abbrev lays_of : Event → List Lays
lays_of (entered t r) = []
lays_of (opened i j (Ok s)) = record { from = i; to = j } ∷ []
lays_of (opened i j (Err f)) = []
lays_of (stepped k b r c) = []
lays_of (strayed l b r c) = []
lays_of (kin i r) = []
lays_of (part i e r) = []

-- the listings that the calls opened, in order
abbrev pub listings : List Event → List Lays
listings es = flat_map lays_of es

abbrev pub no_lays : Lays
no_lays = record { from = 0; to = 0 }

module _ (nets : List Net) (k : ℕ) (lays : Lays) where
  abbrev handed_by : Event → List (List ℕ)
  handed_by (entered t r) = []
  handed_by (opened i j r) = []
  handed_by (stepped h b (Ok (found g s)) c) = cond (h == k) (take (edges (entry nets lays.from)) c.images ∷ []) []
  handed_by (stepped h b (Ok (ended n)) c) = []
  handed_by (stepped h b (Err f) c) = []
  handed_by (strayed l b r c) = []
  handed_by (kin i r) = []
  handed_by (part i e r) = []

  -- what the listing k handed out: for each found step the numbers that it left in the image buffer, one for each edge of its first entry
  abbrev pub handed : List Event → List (List ℕ)
  handed es = flat_map handed_by es

-- ---- The law

module _ {L : Type 0} (label : Net → ℕ → L) (same : L → L → Bool) where
  -- The call gets the refusal or the answer that is defined for these entries; a step of a listing of the row, as that was last left.
  abbrev pub Named : ℕ → List Net → List (Option Standing) → Event → Type 0
  Named capacity nets ss (entered t r) = (after : List Net) × Entering capacity nets t r after
  Named capacity nets ss (opened i j r) = Opening nets i j r
  Named capacity nets ss (stepped k before r after) = (l : Standing) × (slice_index_or ss k None ≡ Some l) × Stepping label same nets l before r after
  Named capacity nets ss (strayed l before r after) = Stepping label same nets l before r after
  Named capacity nets ss (kin i r) = Asking label same nets i r
  Named capacity nets ss (part i e r) = Parting label same nets i e r

  -- What a listing has handed out: the first of all pairings from its first entry to its second, by rising image of edge 1, each once.
  pub record FirstOfAll (nets : List Net) (lays : Lays) (out : List (List ℕ)) : Type 0 where
    pub images : List ℕ
    pub all : FirstImages label same (entry nets lays.from) (entry nets lays.to) images
    pub pairings : AllByRecursion (Laid label same (entry nets lays.from) (entry nets lays.to)) out
    pub firsts : map (λ way. at way 0) out ≡ map (λ g. g + 1) (take (length out) images)

  -- An unrefused step of the listing ends it, and answers their number, exactly when all were out before.
  abbrev pub EndsWhenOut : ℕ → List ℕ → List (List ℕ) → Event → Type 0
  EndsWhenOut k images out (entered t r) = Unit {0}
  EndsWhenOut k images out (opened i j r) = Unit {0}
  EndsWhenOut k images out (stepped h b (Ok (found g s)) c) = h ≡ k → length out < length images
  EndsWhenOut k images out (stepped h b (Ok (ended n)) c) = h ≡ k → (length out ≡ length images) × (n ≡ length images)
  EndsWhenOut k images out (stepped h b (Err f) c) = Unit {0}
  EndsWhenOut k images out (strayed l b r c) = Unit {0}
  EndsWhenOut k images out (kin i r) = Unit {0}
  EndsWhenOut k images out (part i e r) = Unit {0}

  -- At every place of every row: the entries are the blocks of the enters that meet no condition of refusal, and the call answers
  -- what is defined for them; every listing that the row opened has handed out the first of all its pairings, and ends when all are out.
  pub record AtPlace (capacity : ℕ) (before : List Event) (e : Event) : Type 0 where
    pub nets : List Net
    pub enters : Enters capacity [] before nets
    pub named : Named capacity nets (standings [] before) e
    pub listed : (k : ℕ) → k < length (listings before) → FirstOfAll nets (slice_index_or (listings before) k no_lays) (handed nets k (slice_index_or (listings before) k no_lays) before)
    pub ends : (k : ℕ) (lt : k < length (listings before)) → EndsWhenOut k (listed k lt).images (handed nets k (slice_index_or (listings before) k no_lays) before) e

  -- Kin, whenever asked, gives two blocks the same first entry exactly when a pairing carries one onto the other; and then as many
  -- pairings do so as carry either block onto itself.
  pub record OneFamily (a b : Net) (f g : ℕ) : Type 0 where
    pub same_first : f ≡ g → Kin label same a b
    pub first_same : Kin label same a b → f ≡ g
    pub as_many : Kin label same a b → (n : ℕ) × Number label same a b n × Number label same a a n × Number label same b b n

  -- Part, whenever asked, gives two edges the same number exactly when they share a part.
  pub record SharedPart (a b : Net) (e d p q : ℕ) : Type 0 where
    pub same_number : p ≡ q → Shares label same a (e - 1) b (d - 1)
    pub number_same : Shares label same a (e - 1) b (d - 1) → p ≡ q

  -- Part, whenever asked, gives two edges the same number exactly when a pairing carries one to the other.
  pub record OnePart (a b : Net) (e d p q : ℕ) : Type 0 where
    pub same_number : p ≡ q → Carried label same a b (e - 1) (d - 1)
    pub number_same : Carried label same a b (e - 1) (d - 1) → p ≡ q

  -- The law of a row, under a kind that contains the measure or not.
  pub record Law (measured : Bool) (capacity : ℕ) (es : List Event) : Type 0 where
    -- the entries at the end of the row
    pub nets : List Net
    pub enters : Enters capacity [] es nets
    -- there are no others
    pub only : (other : List Net) → Enters capacity [] es other → other ≡ nets
    pub listed : (k : ℕ) → k < length (listings es) → FirstOfAll nets (slice_index_or (listings es) k no_lays) (handed nets k (slice_index_or (listings es) k no_lays) es)
    pub places : (before after : List Event) (e : Event) → es ≡ before ++ (e ∷ after) → AtPlace capacity before e
    pub families : (i j f g m n : ℕ) (a b c d : List Event) → es ≡ a ++ (kin i (Ok (f, m)) ∷ b) → es ≡ c ++ (kin j (Ok (g, n)) ∷ d) → OneFamily (entry nets i) (entry nets j) f g
    pub shared : (i j e h p q : ℕ) (a b c d : List Event) → es ≡ a ++ (part i e (Ok p) ∷ b) → es ≡ c ++ (part j h (Ok q) ∷ d) → SharedPart (entry nets i) (entry nets j) e h p q
    pub parts : T measured → (i j e h p q : ℕ) (a b c d : List Event) → es ≡ a ++ (part i e (Ok p) ∷ b) → es ≡ c ++ (part j h (Ok q) ∷ d) → OnePart (entry nets i) (entry nets j) e h p q

  -- The law holds of every row of calls on a catalogue just opened.
  abbrev pub RowsKeepTheLaw : Bool → Type 0
  RowsKeepTheLaw measured = (capacity : ℕ) (es : List Event) → Row label same capacity fresh es → Law measured capacity es

  -- Two rows of the same calls on catalogues just opened, of one capacity, have the same answers, and the same in the buffers.
  abbrev pub SameCallsSameAnswers : Type 0
  SameCallsSameAnswers = (capacity : ℕ) (es fs : List Event) → Row label same capacity fresh es → Row label same capacity fresh fs → map call_of es ≡ map call_of fs → es ≡ fs
