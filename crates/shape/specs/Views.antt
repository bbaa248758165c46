-- What the lists of `Edges` say.
use Rattle.std.specs.Prelude.{ℕ, List, ℤ, slice_index_or}
use Rattle.solid.specs.declared.Point.{Point}
use Rattle.solid.specs.Points.{place, volume}
use Rattle.drawing.specs.Lists.{at}
use Rattle.drawing.specs.Nets.{Net, no_point}
use Rattle.shape.specs.declared.edges.Edges.{Edges}
use Rattle.shape.specs.Edges.{shown}
use Rattle.shape.specs.Wedges.{Listed}

-- the net of the edges, without marks
abbrev pub net_of : Edges → Net
net_of e = shown e.points.now e.starts.now e.next.now e.opposite.now

-- the point at which an edge starts
abbrev pub corner : Edges → ℕ → Point
corner e k = slice_index_or e.points.now (at e.starts.now k) no_point

-- vol(h, p, q): h is the point of the first corner of the chain, p and q are the ends of the edge k
abbrev pub wedge : Edges → ℕ → ℤ
wedge e k = volume (place (corner e (at e.home.now k))) (place (corner e k)) (place (corner e (at e.next.now k)))

-- These are the chains of the edges.
abbrev pub HasRounds : Edges → List (List ℕ) → Type 0
HasRounds e rounds = Listed e.next.now e.order.now e.home.now rounds
