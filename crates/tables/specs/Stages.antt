-- What a group of checks establishes, or which of them fails first.
use Rattle.std.specs.Prelude.{◌≡◌, ℕ, ◌<◌, ◌≤◌, List, length}
use Rattle.solid.specs.declared.Point.{Point}
use Rattle.drawing.specs.declared.record.Corner.{Corner}
use Rattle.drawing.specs.Causes.{Fault}
use Rattle.drawing.specs.declared.fault.Cause.TheVariants.{PointNumber, LoosePoint, DoublePoint, UnmatchedEdge, PinchedPoint, UnreachedEdge}
use Rattle.drawing.specs.Lists.{at}
use Rattle.drawing.specs.Lowest.{RefusedAt}
use Rattle.drawing.specs.Nets.{Matched, Whole, Reached}
use Rattle.drawing.specs.Verdicts.{Named, Used, Repeated}
use Rattle.tables.specs.Bare.{bare}
use Rattle.tables.specs.Pairs.{Bounded, Faces}

-- Each corner names a point, each point is named, and no two are the same.
pub record Pointed (ps : List Point) (cs : List Corner) : Type 0 where
  pub named : (k : ℕ) → k < length cs → Named cs (length ps) k
  pub all_used : (q : ℕ) → q < length ps → Used cs q
  pub distinct : (q : ℕ) → q < length ps → Repeated ps q → ⊥

pub data PointsRefused (ps : List Point) (cs : List Corner) (f : Fault) : Type 0 where
  unnamed : RefusedAt PointNumber (length cs) (λ k. Named cs (length ps) k → ⊥) f → PointsRefused ps cs f
  loose : ((k : ℕ) → k < length cs → Named cs (length ps) k) → RefusedAt LoosePoint (length ps) (λ q. Used cs q → ⊥) f → PointsRefused ps cs f
  double : ((k : ℕ) → k < length cs → Named cs (length ps) k) → ((q : ℕ) → q < length ps → Used cs q) → RefusedAt DoublePoint (length ps) (Repeated ps) f → PointsRefused ps cs f

-- Starts and next edges as the chains give them: next leads from different edges to different ones.
pub record Seamed (points : ℕ) (starts next : List ℕ) : Type 0 where
  pub some : 1 ≤ length starts
  pub points_to : points ≤ 160
  pub bounded : Bounded starts next
  pub start_within : (e : ℕ) → e < length starts → at starts e < points
  pub next_once : (e f : ℕ) → e < length starts → f < length starts → at next e ≡ at next f → e ≡ f

-- Each edge has its opposite.
pub record Joined (starts next opposite : List ℕ) : Type 0 where
  pub size : length opposite ≡ length starts
  pub each : (e : ℕ) → e < length starts → Faces starts next e (at opposite e)

-- Each edge has its opposite, turning about a point meets all its edges, and all edges are reached.
pub record Closed (points : ℕ) (starts next opposite : List ℕ) : Type 0 where
  pub joined : Joined starts next opposite
  pub whole : (q : ℕ) → q < points → Whole (bare starts next opposite) q
  pub reached : (e : ℕ) → e < length starts → Reached (bare starts next opposite) e

pub data EdgesRefused (points : ℕ) (starts next : List ℕ) (f : Fault) : Type 0 where
  unmatched : RefusedAt UnmatchedEdge (length starts) (λ e. Matched starts next e → ⊥) f → EdgesRefused points starts next f
  pinched : (opposite : List ℕ) → Joined starts next opposite → RefusedAt PinchedPoint points (λ q. Whole (bare starts next opposite) q → ⊥) f → EdgesRefused points starts next f
  unreached : (opposite : List ℕ) → Joined starts next opposite → ((q : ℕ) → q < points → Whole (bare starts next opposite) q) → RefusedAt UnreachedEdge (length starts) (λ e. Reached (bare starts next opposite) e → ⊥) f → EdgesRefused points starts next f
