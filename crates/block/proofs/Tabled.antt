-- What the record of an edge of a block holds.
use Rattle.std.proofs.Common.{ℕ, ◌<◌, length, get_or, sym, arith}
use Rattle.std.proofs.lemmas.List.{get_or-map, length-map}
use Rattle.drawing.specs.Nets.{edges}
use Rattle.block.specs.declared.body.Edge.{Edge}
use Rattle.block.specs.declared.body.Block.TheInside.{Inside}
use Rattle.block.specs.Inside.{net_in, IsChecked}

abbrev pub no_edge : Edge
no_edge = record { start = 0; mark = 0; next = 0; opposite = 0 }

module _ (b : Inside) (checked : IsChecked b) (e : ℕ) (lt : e < edges (net_in b)) where
  abbrev edge : Edge
  edge = get_or b.edges.items e no_edge

  there : e < length b.edges.items
  there = omega (arith, length-map b.edges.items (λ e. e.start))

  pub start_used : edge.start < length b.points.items
  start_used = rw (sym (get_or-map (λ e. e.start) b.edges.items e no_edge 0 there)) (checked.mesh.start_within e lt)

  pub next_used : edge.next < edges (net_in b)
  next_used = rw (sym (get_or-map (λ e. e.next) b.edges.items e no_edge 0 there)) (checked.mesh.next_within e lt)

  pub opposite_used : edge.opposite < edges (net_in b)
  opposite_used = rw (sym (get_or-map (λ e. e.opposite) b.edges.items e no_edge 0 there)) (checked.mesh.opposite_within e lt)
