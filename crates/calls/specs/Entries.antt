-- The entries of a catalogue: the nets of its blocks, in the order of their entry. Entries and edges are told by numbers, from 1.
use Rattle.std.specs.Prelude.{ℕ, ◌+◌, ◌-◌, ◌<◌, ◌≤◌, List, [], length, take, slice_index_or}
use Rattle.std.specs.List.{sum_by}
use Rattle.drawing.specs.Nets.{Net, edges}
use Rattle.drawing.specs.Verdicts.{Tables, Sound, Draws}
use Rattle.block.specs.Checked.{Checked}

abbrev pub no_net : Net
no_net = record { points = []; starts = []; marks = []; next = []; opposite = [] }

-- the net of the entry of this number
abbrev pub entry : List Net → ℕ → Net
entry nets i = slice_index_or nets (i - 1) no_net

-- The number names an entry.
pub record Known (nets : List Net) (i : ℕ) : Type 0 where
  pub from_one : 1 ≤ i
  pub to_last : i ≤ length nets

-- The number names an edge of the net.
pub record Edge (m : Net) (e : ℕ) : Type 0 where
  pub from_one : 1 ≤ e
  pub to_last : e ≤ edges m

-- how many edges the entries have
abbrev pub held : List Net → ℕ
held nets = sum_by edges nets

-- The running number of an edge of an entry: edges are counted from 1 through all entries in their order.
abbrev pub running : List Net → ℕ → ℕ → ℕ
running nets i e = held (take (i - 1) nets) + e

module _ (capacity : ℕ) where
  abbrev pub free : List Net → ℕ
  free nets = capacity - held nets

  -- There is room for one more block, of n edges.
  pub record Room (nets : List Net) (n : ℕ) : Type 0 where
    pub blocks : length nets < 64
    pub enough : n ≤ free nets

  -- The tables meet no condition of refusal, and m is the net of the block that they draw.
  pub record Accepted (nets : List Net) (t : Tables) (m : Net) : Type 0 where
    pub sound : Sound t
    pub draws : Draws t m
    pub checked : Checked m
    pub room : Room nets (edges m)

  -- The tables meet a condition of refusal.
  abbrev pub TurnedAway : List Net → Tables → Type 0
  TurnedAway nets t = Sound t → Room nets (length t.corners) → ⊥
