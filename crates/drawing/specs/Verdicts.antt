-- What each check says of three tables, and which verdict they get.
use Rattle.std.specs.Prelude.{◌≡◌, ℕ, ◌+◌, ◌<◌, ◌≤◌, ◌⊎◌, List, length, get_or, take, pos, ◌≤ℤ◌, ◌≢◌, slice_index_or}
use Rattle.solid.specs.declared.Point.{Point}
use Rattle.solid.specs.Points.{Near}
use Rattle.drawing.specs.declared.record.Corner.{Corner}
use Rattle.drawing.specs.declared.record.Face.{Face}
use Rattle.drawing.specs.declared.fault.Cause.{Cause}
use Rattle.drawing.specs.declared.fault.Cause.TheVariants.{TableCount, Coordinate, BrokenChain, PointNumber, LoosePoint, DoublePoint, UnmatchedEdge, PinchedPoint, UnreachedEdge, BentFace, LevelFaces, NoVolume}
use Rattle.drawing.specs.Causes.{Fault}
use Rattle.drawing.specs.Causes.{number}
use Rattle.drawing.specs.Lowest.{Lowest}
use Rattle.drawing.specs.Lists.{◌∈◌, flat}
use Rattle.drawing.specs.Chains.{Rounds, Linked, no_corner}
use Rattle.drawing.specs.Nets.{Net, no_point, starts_of, marks_of, Runs, Matched, edges, start, end, opposite, Reached, Whole, bend, fold, content}

-- The three tables of a drawing. The record number k + 1 stands at the index k.
pub record Tables : Type 0 where
  pub points : List Point
  pub corners : List Corner
  pub faces : List Face

abbrev pub tables : List Point → List Corner → List Face → Tables
tables ps cs fs = record { points = ps; corners = cs; faces = fs }

-- 1. The counts are in their ranges.
pub record Counts (points corners faces : ℕ) : Type 0 where
  pub points_from : 4 ≤ points
  pub points_to : points ≤ 160
  pub corners_from : 12 ≤ corners
  pub corners_to : corners ≤ 480
  pub faces_from : 4 ≤ faces
  pub faces_to : faces ≤ 160

-- 1. A refusal for a count that is not, which has no place.
pub record CountRefused (points corners faces : ℕ) (f : Fault) : Type 0 where
  pub cause_is : f.cause ≡ TableCount
  pub place_is : f.place ≡ 0
  pub outside : Counts points corners faces → ⊥

-- 3. The first f + 1 faces have chains, in which no corner is met twice.
pub record Followed (cs : List Corner) (fs : List Face) (f : ℕ) : Type 0 where
  pub rounds : List (List ℕ)
  pub drawn : Rounds cs (take (f + 1) fs) rounds

-- 3. All faces have such chains, and none of them meets some corner.
pub record Missed (cs : List Corner) (fs : List Face) : Type 0 where
  pub rounds : List (List ℕ)
  pub drawn : Rounds cs fs rounds
  pub corner : ℕ
  pub within : corner < length cs
  pub missing : corner ∈ flat rounds → ⊥

-- 3. The lowest face at which there are no such chains; or, at place 0, that they miss a corner.
abbrev pub ChainFails : List Corner → List Face → ℕ → Type 0
ChainFails cs fs p = Lowest (length fs) (λ f. Followed cs fs f → ⊥) p ⊎ ((p ≡ 0) × Missed cs fs)

-- 4. The corner k names one of the points.
pub record Named (cs : List Corner) (points k : ℕ) : Type 0 where
  pub from_one : 1 ≤ (get_or cs k no_corner).point
  pub to_last : (get_or cs k no_corner).point ≤ points

-- 5. Some corner names the point q.
pub record Used (cs : List Corner) (q : ℕ) : Type 0 where
  pub corner : ℕ
  pub within : corner < length cs
  pub names : (get_or cs corner no_corner).point ≡ q + 1

-- 6. The point q has the coordinates of an earlier one.
pub record Repeated (ps : List Point) (q : ℕ) : Type 0 where
  pub earlier : ℕ
  pub before : earlier < q
  pub same : get_or ps earlier no_point ≡ slice_index_or ps q no_point

-- The net that the tables draw: next goes round each chain, and the opposite of an edge runs between the same points the other way.
pub record Draws (t : Tables) (m : Net) : Type 0 where
  pub points_are : m.points ≡ t.points
  pub starts_are : m.starts ≡ starts_of t.corners
  pub marks_are : m.marks ≡ marks_of t.corners
  pub linked : Linked t.corners t.faces m.next
  pub opposite_size : length m.opposite ≡ length t.corners
  pub opposite_within : (e : ℕ) → e < edges m → opposite m e < edges m
  pub opposite_runs : (e : ℕ) → e < edges m → Runs m.starts m.next (end m e) (start m e) (opposite m e)

-- Some net that the tables draw has the property P.
pub record Drawn (t : Tables) (P : Net → Type 0) : Type 0 where
  pub net : Net
  pub draws : Draws t net
  pub has : P net

-- The check of this cause fails, at this place.
abbrev pub Fails : Tables → Cause → ℕ → Type 0
Fails t TableCount p = (p ≡ 0) × (Counts (length t.points) (length t.corners) (length t.faces) → ⊥)
Fails t Coordinate p = Lowest (length t.points) (λ q. Near (slice_index_or t.points q no_point) → ⊥) p
Fails t BrokenChain p = ChainFails t.corners t.faces p
Fails t PointNumber p = Lowest (length t.corners) (λ k. Named t.corners (length t.points) k → ⊥) p
Fails t LoosePoint p = Lowest (length t.points) (λ q. Used t.corners q → ⊥) p
Fails t DoublePoint p = Lowest (length t.points) (Repeated t.points) p
Fails t UnmatchedEdge p = (next : List ℕ) × Linked t.corners t.faces next × Lowest (length t.corners) (λ e. Matched (starts_of t.corners) next e → ⊥) p
Fails t PinchedPoint p = Drawn t (λ m. Lowest (length t.points) (λ q. Whole m q → ⊥) p)
Fails t UnreachedEdge p = Drawn t (λ m. Lowest (edges m) (λ e. Reached m e → ⊥) p)
Fails t BentFace p = Drawn t (λ m. Lowest (edges m) (λ e. bend m e ≢ pos 0) p)
Fails t LevelFaces p = Drawn t (λ m. Lowest (edges m) (λ e. fold m e ≡ pos 0) p)
Fails t NoVolume p = (p ≡ 0) × Drawn t (λ m. (linked : Linked t.corners t.faces m.next) × (content m.points m.starts linked.rounds ≤ℤ pos 0))

-- The check of this cause fails at no place.
abbrev pub Passes : Tables → Cause → Type 0
Passes t c = (p : ℕ) → Fails t c p → ⊥

-- The verdict: the first check that fails, with its place ..
pub record Refused (t : Tables) (f : Fault) : Type 0 where
  pub earlier : (c : Cause) → number c < number f.cause → Passes t c
  pub fails : Fails t f.cause f.place

-- .. or that the drawing is sound, which is that no check fails.
abbrev pub Sound : Tables → Type 0
Sound t = (c : Cause) → Passes t c
