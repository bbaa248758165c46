-- The edges of a drawing as lists, and what the checks of the shape ask of them.
use Rattle.std.specs.Prelude.{◌≡◌, ℕ, ◌<◌, List, [], length, slice_index_or}
use Rattle.solid.specs.declared.Point.{Point}
use Rattle.solid.specs.Points.{Near}
use Rattle.drawing.specs.Lists.{at}
use Rattle.drawing.specs.Nets.{Net, no_point}

-- the net of these lists, without marks
abbrev pub shown : List Point → List ℕ → List ℕ → List ℕ → Net
shown ps ss ns os = record { points = ps; starts = ss; marks = []; next = ns; opposite = os }

-- Each edge starts at one of the points, and these are near.
pub record Placed (points : List Point) (starts : List ℕ) : Type 0 where
  pub near : (q : ℕ) → q < length points → Near (slice_index_or points q no_point)
  pub start_within : (e : ℕ) → e < length starts → at starts e < length points

-- A list that leads from each of n edges to one of them.
pub record EdgeList (n : ℕ) (es : List ℕ) : Type 0 where
  pub size : length es ≡ n
  pub within : (e : ℕ) → e < n → at es e < n
