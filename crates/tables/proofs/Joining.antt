-- Edges that have their opposites.
use Rattle.std.proofs.Common.{◌≡◌, ℕ, ◌<◌, length, sym, refl, ◌∙◌}
use Rattle.drawing.specs.Lists.{at}
use Rattle.drawing.specs.Nets.{Net, Mesh}
use Rattle.tables.specs.Stages.{Seamed, Joined}

module _ (points : ℕ) (m : Net) (s : Seamed points m.starts m.next) (j : Joined m.starts m.next m.opposite) where
  -- the opposite of the opposite runs as the edge does, and just one edge does
  back_again : (e : ℕ) → e < length m.starts → at m.opposite (at m.opposite e) ≡ e
  back_again e h =
      let f = j.each e h in
      let g = j.each (at m.opposite e) f.within in
      let only = f.matched.there.only in
      only (at m.opposite (at m.opposite e)) g.within (record { from = g.runs.from ∙ f.runs.to; to = g.runs.to ∙ f.runs.from })
      ∙ sym (only e h (record { from = refl; to = refl }))

  pub mesh_from : Mesh points m
  mesh_from = record {
    next_size = s.bounded.next_size;
    opposite_size = j.size;
    start_within = s.start_within;
    next_within = s.bounded.next_within;
    next_once = s.next_once;
    opposite_within = λ e h. (j.each e h).within;
    opposite_twice = back_again;
    opposite_start = λ e h. (j.each e h).runs.from;
    opposite_end = λ e h. (j.each e h).runs.to;
  }
