-- The net of a drawing: its points and its directed edges, each with its start, its mark, its next edge and its opposite.
use Rattle.std.specs.Prelude.{◌≡◌, ℕ, zero, suc, ◌-◌, ◌<◌, ◌≢◌, List, [], ◌∷◌, map, length, get_or, ℤ, pos, ◌+ℤ◌, slice_index_or}
use Rattle.solid.specs.declared.Point.{Point}
use Rattle.solid.specs.declared.Vector.{Vector}
use Rattle.solid.specs.Points.{between, place, volume}
use Rattle.drawing.specs.declared.record.Corner.{Corner}
use Rattle.drawing.specs.declared.step.Step.{Step}
use Rattle.drawing.specs.declared.step.Step.TheVariants.{Along, Across}
use Rattle.drawing.specs.Lists.{at}

abbrev pub no_point : Point
no_point = record { x = pos 0; y = pos 0; z = pos 0 }

pub record Net : Type 0 where
  pub points : List Point
  pub starts : List ℕ
  pub marks : List ℕ
  pub next : List ℕ
  pub opposite : List ℕ

-- the index of the point at which the edge of each corner starts; once check 4 passes, each number is 1 or more
abbrev pub starts_of : List Corner → List ℕ
starts_of cs = map (λ c. c.point - 1) cs

abbrev pub marks_of : List Corner → List ℕ
marks_of cs = map (λ c. c.mark) cs

-- The edge e runs from the point a to the point b.
pub record Runs (starts next : List ℕ) (a b e : ℕ) : Type 0 where
  pub from : at starts e ≡ a
  pub to : at starts (at next e) ≡ b

-- Just one of n has the property P.
pub record Once (n : ℕ) (P : ℕ → Type 0) : Type 0 where
  pub one : ℕ
  pub within : one < n
  pub has : P one
  pub only : (k : ℕ) → k < n → P k → k ≡ one

-- The ends of e differ, and just one edge runs from its start to its end, and just one the other way.
pub record Matched (starts next : List ℕ) (e : ℕ) : Type 0 where
  pub apart : at starts e ≢ at starts (at next e)
  pub there : Once (length starts) (Runs starts next (at starts e) (at starts (at next e)))
  pub back : Once (length starts) (Runs starts next (at starts (at next e)) (at starts e))

module _ (m : Net) where
  abbrev pub edges : ℕ
  edges = length m.starts

  abbrev pub start : ℕ → ℕ
  start e = at m.starts e

  abbrev pub next : ℕ → ℕ
  next e = at m.next e

  abbrev pub opposite : ℕ → ℕ
  opposite e = at m.opposite e

  abbrev pub end : ℕ → ℕ
  end e = start (next e)

  -- where a list of steps leads
  abbrev pub step : Step → ℕ → ℕ
  step Along e = next e
  step Across e = opposite e

  abbrev pub leads : List Step → ℕ → ℕ
  leads [] e = e
  leads (s ∷ ss) e = leads ss (step s e)

  -- The edge e is reached from edge 1 by next edges and opposites.
  abbrev pub Reached : ℕ → Type 0
  Reached e = (steps : List Step) × (leads steps 0 ≡ e)

  -- k times to the next edge of the opposite, which leaves the same point
  abbrev pub turned : ℕ → ℕ → ℕ
  turned zero e = e
  turned (suc k) e = next (opposite (turned k e))

  -- Turning about the point q leads from each edge that leaves it to each.
  abbrev pub Whole : ℕ → Type 0
  Whole q = (e f : ℕ) → e < edges → f < edges → start e ≡ q → start f ≡ q → (k : ℕ) × (turned k e ≡ f)

  abbrev pub point_at : ℕ → Point
  point_at q = slice_index_or m.points q no_point

  -- the vector of an edge
  abbrev pub vector : ℕ → Vector
  vector e = between (point_at (start e)) (point_at (end e))

  -- the volume of an edge and the two that follow it: zero where a face is flat
  abbrev pub bend : ℕ → ℤ
  bend e = volume (vector e) (vector (next e)) (vector (next (next e)))

  -- the volume of an edge, its next edge and the next of its opposite: zero where two faces are level or a corner is straight
  abbrev pub fold : ℕ → ℤ
  fold e = volume (vector e) (vector (next e)) (vector (next (opposite e)))

-- What the tables layer establishes of the edges: next permutes them, opposite pairs them off, and opposites run between the same points.
pub record Mesh (points : ℕ) (m : Net) : Type 0 where
  pub next_size : length m.next ≡ length m.starts
  pub opposite_size : length m.opposite ≡ length m.starts
  pub start_within : (e : ℕ) → e < edges m → start m e < points
  pub next_within : (e : ℕ) → e < edges m → next m e < edges m
  pub next_once : (e f : ℕ) → e < edges m → f < edges m → next m e ≡ next m f → e ≡ f
  pub opposite_within : (e : ℕ) → e < edges m → opposite m e < edges m
  pub opposite_twice : (e : ℕ) → e < edges m → opposite m (opposite m e) ≡ e
  pub opposite_start : (e : ℕ) → e < edges m → start m (opposite m e) ≡ end m e
  pub opposite_end : (e : ℕ) → e < edges m → end m (opposite m e) ≡ start m e

-- The sum of vol(q, x, y) over each two neighbours x, y in the list a, b, c ..
abbrev pub fan_from : Point → Point → List Point → ℤ
fan_from q a [] = pos 0
fan_from q a (b ∷ bs) = volume (place q) (place a) (place b) +ℤ fan_from q b bs

-- A face with the corner points q1 .. qm: the sum of vol(q1, qi, qi+1), i from 2 to m - 1.
abbrev pub fan : List Point → ℤ
fan [] = pos 0
fan (q ∷ []) = pos 0
fan (q ∷ a ∷ qs) = fan_from q a qs

-- The volume that the faces enclose: the sum over their chains.
abbrev pub content : List Point → List ℕ → List (List ℕ) → ℤ
content ps starts [] = pos 0
content ps starts (ks ∷ rounds) = fan (map (λ k. get_or ps (at starts k) no_point) ks) +ℤ content ps starts rounds
