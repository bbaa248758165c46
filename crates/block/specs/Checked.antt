-- What holds of the net of every checked block.
use Rattle.std.specs.Prelude.{◌≡◌, ℕ, ◌<◌, ◌≤◌, ◌≢◌, List, length, take, pos}
use Rattle.solid.specs.declared.Point.{Point}
use Rattle.solid.specs.Points.{Near}
use Rattle.drawing.specs.declared.record.Corner.{Corner}
use Rattle.tables.specs.declared.wiring.Wiring.{Wiring}
use Rattle.drawing.specs.Nets.{Net, marks_of, Mesh, edges, start, end, next, opposite, point_at, Whole, Reached, bend, fold}

-- Some edge leaves the point q.
pub record Leaves (m : Net) (q : ℕ) : Type 0 where
  pub edge : ℕ
  pub within : edge < edges m
  pub from : start m edge ≡ q

-- The edge f is the next edge of some edge.
pub record Previous (m : Net) (f : ℕ) : Type 0 where
  pub edge : ℕ
  pub within : edge < edges m
  pub leads : next m edge ≡ f

pub record Checked (m : Net) : Type 0 where
  -- the counts and coordinates are in their ranges
  pub points_from : 4 ≤ length m.points
  pub points_to : length m.points ≤ 160
  pub edges_from : 12 ≤ edges m
  pub edges_to : edges m ≤ 480
  pub marks_size : length m.marks ≡ edges m
  pub near : (q : ℕ) → q < length m.points → Near (point_at m q)
  -- points are distinct
  pub points_once : (p q : ℕ) → p < length m.points → q < length m.points → point_at m p ≡ point_at m q → p ≡ q
  -- next is a permutation, and opposite an involution that turns edges round and fixes none
  pub mesh : Mesh (length m.points) m
  pub previous : (f : ℕ) → f < edges m → Previous m f
  pub opposite_apart : (e : ℕ) → e < edges m → opposite m e ≢ e
  -- the ends of an edge differ, and an ordered pair of ends has one edge
  pub ends_apart : (e : ℕ) → e < edges m → start m e ≢ end m e
  pub ends_once : (e f : ℕ) → e < edges m → f < edges m → start m e ≡ start m f → end m e ≡ end m f → e ≡ f
  -- an edge leaves each point, and turning about it leads to all that do
  pub leaving : (q : ℕ) → q < length m.points → Leaves m q
  pub whole : (q : ℕ) → q < length m.points → Whole m q
  -- all edges are reached from edge 1
  pub reached : (e : ℕ) → e < edges m → Reached m e
  -- the faces are flat, and no two are level
  pub flat : (e : ℕ) → e < edges m → bend m e ≡ pos 0
  pub angled : (e : ℕ) → e < edges m → fold m e ≢ pos 0

-- the net of these points, the marks of these corners, and this wiring
abbrev pub net_from : List Point → List Corner → Wiring → Net
net_from ps cs w =
    let n = length cs in
    record { points = ps; starts = take n w.starts; marks = marks_of cs; next = take n w.next; opposite = take n w.opposite }
