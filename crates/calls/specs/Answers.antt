-- What each call answers, and what it leaves behind, by the entries of the catalogue.
use Rattle.std.specs.Prelude.{◌≡◌, ℕ, ◌+◌, ◌-◌, ◌<◌, ◌≤◌, Bool, List, [], ◌∷◌, ◌++◌, length, take, Ok, Err, Result}
use Rattle.drawing.specs.Causes.{Fault}
use Rattle.drawing.specs.Lists.{at}
use Rattle.drawing.specs.Nets.{Net, edges}
use Rattle.drawing.specs.Verdicts.{Tables, Sound, Refused}
use Rattle.pairing.specs.Parts.{Shares}
use Rattle.pairing.specs.Ways.{Kin, Carried}
use Rattle.laying.specs.Layings.{Laid}
use Rattle.calls.specs.declared.refusal.Refusal.{Refusal}
use Rattle.calls.specs.declared.refusal.Refusal.TheVariants.{NoEntry, NoEdge, ShortBuffer, Full}
use Rattle.calls.specs.Reasons.{of_drawing}
use Rattle.calls.specs.Entries.{entry, Known, Edge, running, free, Room, Accepted}

-- ---- enter

-- The block is taken: it is the next entry.
pub record Entered (capacity : ℕ) (nets : List Net) (t : Tables) (n : ℕ) (after : List Net) : Type 0 where
  pub net : Net
  pub accepted : Accepted capacity nets t net
  pub number_is : n ≡ length nets + 1
  pub after_is : after ≡ nets ++ (net ∷ [])

-- It is refused: for the drawing, or for want of room; the place then is the number of free edges.
pub data Rejected (capacity : ℕ) (nets : List Net) (t : Tables) (f : Refusal) : Type 0 where
  drawing : (fault : Fault) → Refused t fault → f ≡ of_drawing fault → Rejected capacity nets t f
  full : Sound t → (Room capacity nets (length t.corners) → ⊥) → f ≡ Full (free capacity nets) → Rejected capacity nets t f

abbrev pub Entering : ℕ → List Net → Tables → Result ℕ Refusal → List Net → Type 0
Entering capacity nets t (Ok n) after = Entered capacity nets t n after
Entering capacity nets t (Err f) after = Rejected capacity nets t f × (after ≡ nets)

-- ---- listings

-- Where a listing stands: the entries from which and to which it lays, the last edge of the second that was tried as the image of
-- edge 1 of the first, and how many pairings it handed out.
pub record Standing : Type 0 where
  pub from : ℕ
  pub to : ℕ
  pub place : ℕ
  pub count : ℕ

-- The first of the two numbers that names no entry is refused.
pub data Unknown (nets : List Net) (i j : ℕ) (f : Refusal) : Type 0 where
  first : (Known nets i → ⊥) → f ≡ NoEntry 1 → Unknown nets i j f
  second : Known nets i → (Known nets j → ⊥) → f ≡ NoEntry 2 → Unknown nets i j f

-- A listing is opened: it stands before edge 1 of j.
pub record Opened (nets : List Net) (i j : ℕ) (s : Standing) : Type 0 where
  pub from_known : Known nets i
  pub to_known : Known nets j
  pub stands : s ≡ record { from = i; to = j; place = 0; count = 0 }

abbrev pub Opening : List Net → ℕ → ℕ → Result Standing Refusal → Type 0
Opening nets i j (Ok s) = Opened nets i j s
Opening nets i j (Err f) = Unknown nets i j f

-- ---- step

-- The two buffers of a step: the images, and the work column.
pub record Buffers : Type 0 where
  pub images : List ℕ
  pub work : List ℕ

-- A step hands out a pairing, told by its image of edge 1, with the listing moved on; or the listing has ended, with a count.
pub data Stepped : Type 0 where
  found : ℕ → Standing → Stepped
  ended : ℕ → Stepped

-- A buffer keeps its length, and its places beyond the first n.
pub record KeptBeyond (n : ℕ) (before after : List ℕ) : Type 0 where
  pub size : length after ≡ length before
  pub rest : (k : ℕ) → n ≤ k → at after k ≡ at before k

-- What a step that is not refused may be made on, and how it leaves the work column: n is the edge count of the first entry.
pub record Made (nets : List Net) (s : Standing) (before after : Buffers) : Type 0 where
  pub from_known : Known nets s.from
  pub to_known : Known nets s.to
  pub images_room : edges (entry nets s.from) ≤ length before.images
  pub work_room : edges (entry nets s.from) ≤ length before.work
  pub clean : (k : ℕ) → k < edges (entry nets s.from) → at after.work k ≡ 0
  pub work_kept : KeptBeyond (edges (entry nets s.from)) before.work after.work

-- A step is refused, and both buffers are as before: an entry is unknown, or a buffer too short, the images first.
pub data Short (n : ℕ) (b : Buffers) (f : Refusal) : Type 0 where
  images : length b.images < n → f ≡ ShortBuffer 1 → Short n b f
  work : n ≤ length b.images → length b.work < n → f ≡ ShortBuffer 2 → Short n b f

pub data Unstepped (nets : List Net) (s : Standing) (b : Buffers) (f : Refusal) : Type 0 where
  unknown : Unknown nets s.from s.to f → Unstepped nets s b f
  short : Known nets s.from → Known nets s.to → Short (edges (entry nets s.from)) b f → Unstepped nets s b f

module _ {L : Type 0} (label : Net → ℕ → L) (same : L → L → Bool) (nets : List Net) where
  -- The edge g of the second entry, by number, is the image of edge 1 of the first under a pairing.
  abbrev pub Image : Standing → ℕ → Type 0
  Image s g = Carried label same (entry nets s.from) (entry nets s.to) 0 (g - 1)

  -- The lowest image from the listing's place on is handed out: the image buffer holds the pairing.
  pub record HandsOut (s : Standing) (before after : Buffers) (g : ℕ) (moved : Standing) : Type 0 where
    pub made : Made nets s before after
    pub beyond : s.place < g
    pub lowest : (k : ℕ) → s.place < k → k < g → Image s k → ⊥
    pub laid : Laid label same (entry nets s.from) (entry nets s.to) (take (edges (entry nets s.from)) after.images)
    pub first : at after.images 0 ≡ g
    pub images_kept : KeptBeyond (edges (entry nets s.from)) before.images after.images
    pub stands : moved ≡ record { from = s.from; to = s.to; place = g; count = s.count + 1 }

  -- No image is left: the count is what the listing handed out, and the image buffer is unchanged.
  pub record Ends (s : Standing) (before after : Buffers) (count : ℕ) : Type 0 where
    pub made : Made nets s before after
    pub none : (k : ℕ) → s.place < k → k ≤ edges (entry nets s.to) → Image s k → ⊥
    pub count_is : count ≡ s.count
    pub images_same : after.images ≡ before.images

  abbrev pub Stepping : Standing → Buffers → Result Stepped Refusal → Buffers → Type 0
  Stepping s before (Ok (found g moved)) after = HandsOut s before after g moved
  Stepping s before (Ok (ended count)) after = Ends s before after count
  Stepping s before (Err f) after = Unstepped nets s before f × (after ≡ before)

  -- ---- kin

  -- The first entry of the family of i.
  pub record First (i f : ℕ) : Type 0 where
    pub known : Known nets f
    pub kin : Kin label same (entry nets f) (entry nets i)
    pub lowest : (k : ℕ) → Known nets k → Kin label same (entry nets k) (entry nets i) → f ≤ k

  -- The next entry of the family after i, or 0 where there is none.
  pub data Next (i n : ℕ) : Type 0 where
    last : n ≡ 0 → ((k : ℕ) → Known nets k → i < k → Kin label same (entry nets i) (entry nets k) → ⊥) → Next i n
    later : Known nets n → i < n → Kin label same (entry nets i) (entry nets n) → ((k : ℕ) → i < k → k < n → Kin label same (entry nets i) (entry nets k) → ⊥) → Next i n

  pub record Related (i : ℕ) (r : ℕ × ℕ) : Type 0 where
    pub known : Known nets i
    pub first : First i r.0
    pub next : Next i r.1

  abbrev pub Asking : ℕ → Result (ℕ × ℕ) Refusal → Type 0
  Asking i (Ok r) = Related i r
  Asking i (Err f) = (Known nets i → ⊥) × (f ≡ NoEntry 1)

  -- ---- part

  -- The lowest running number in the part of the edge e of the entry i.
  pub record LowestInPart (i e p : ℕ) : Type 0 where
    pub known : Known nets i
    pub edge : Edge (entry nets i) e
    -- it is that of the edge d of the entry j
    pub j : ℕ
    pub d : ℕ
    pub j_known : Known nets j
    pub d_edge : Edge (entry nets j) d
    pub number_is : p ≡ running nets j d
    pub shares : Shares label same (entry nets i) (e - 1) (entry nets j) (d - 1)
    pub lowest : (k c : ℕ) → Known nets k → Edge (entry nets k) c → Shares label same (entry nets i) (e - 1) (entry nets k) (c - 1) → p ≤ running nets k c

  -- An entry that is unknown is refused first, then an edge that the entry does not have, at its number.
  pub data NoPart (i e : ℕ) (f : Refusal) : Type 0 where
    unknown : (Known nets i → ⊥) → f ≡ NoEntry 1 → NoPart i e f
    beyond : Known nets i → (Edge (entry nets i) e → ⊥) → f ≡ NoEdge e → NoPart i e f

  abbrev pub Parting : ℕ → ℕ → Result ℕ Refusal → Type 0
  Parting i e (Ok p) = LowestInPart i e p
  Parting i e (Err f) = NoPart i e f
