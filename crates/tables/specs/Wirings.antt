-- What the tables layer leaves of tables that pass its checks.
use Rattle.std.specs.Prelude.{◌≡◌, ℕ, ◌<◌, List, length, take, slice_index_or}
use Rattle.std.specs.List.{AllByRecursion}
use Rattle.solid.specs.Points.{Near}
use Rattle.drawing.specs.Lists.{at, flat}
use Rattle.drawing.specs.Homes.{AtHome}
use Rattle.drawing.specs.Nets.{Net, no_point, starts_of, marks_of, Matched, Mesh, Whole, Reached}
use Rattle.drawing.specs.Verdicts.{Tables, Counts, Named, Used, Repeated, Draws}
use Rattle.tables.specs.declared.wiring.Wiring.{Wiring}

-- the net with these next edges and opposites
abbrev pub net_with : Tables → (next opposite : List ℕ) → Net
net_with t next opposite = record { points = t.points; starts = starts_of t.corners; marks = marks_of t.corners; next = next; opposite = opposite }

-- the used part of a list: a place for each corner
abbrev pub used : Tables → List ℕ → List ℕ
used t xs = take (length t.corners) xs

abbrev pub net_of : Tables → Wiring → Net
net_of t w = net_with t (used t w.next) (used t w.opposite)

-- The tables pass the checks of this layer, and these are their edges.
pub record Wired (t : Tables) (w : Wiring) : Type 0 where
  pub counts : Counts (length t.points) (length t.corners) (length t.faces)
  pub near : (q : ℕ) → q < length t.points → Near (slice_index_or t.points q no_point)
  pub named : (k : ℕ) → k < length t.corners → Named t.corners (length t.points) k
  pub all_used : (q : ℕ) → q < length t.points → Used t.corners q
  pub distinct : (q : ℕ) → q < length t.points → Repeated t.points q → ⊥
  pub starts_are : used t w.starts ≡ starts_of t.corners
  pub draws : Draws t (net_of t w)
  pub mesh : Mesh (length t.points) (net_of t w)
  pub matched : (e : ℕ) → e < length t.corners → Matched (starts_of t.corners) (used t w.next) e
  pub whole : (q : ℕ) → q < length t.points → Whole (net_of t w) q
  pub reached : (e : ℕ) → e < length t.corners → Reached (net_of t w) e
  pub order_is : used t w.order ≡ flat draws.linked.rounds
  pub order_size : length (used t w.order) ≡ length t.corners
  pub order_within : (k : ℕ) → k < length t.corners → at (used t w.order) k < length t.corners
  pub home_size : length (used t w.home) ≡ length t.corners
  pub home_within : (k : ℕ) → k < length t.corners → at (used t w.home) k < length t.corners
  pub homes : AllByRecursion (AtHome (used t w.home)) draws.linked.rounds
