-- When each check passes.
use Rattle.std.proofs.Common.{◌≡◌, ℕ, ◌+◌, ◌<◌, List, length, get_or, take, pos, ◌<ℤ◌, subst, inl, inr, arith}
use borrow.Author.Differences.{ints}
use Rattle.solid.specs.Points.{Near}
use Rattle.drawing.specs.declared.fault.Cause.TheVariants.{TableCount, Coordinate, BrokenChain, PointNumber, LoosePoint, DoublePoint, UnmatchedEdge, PinchedPoint, UnreachedEdge, BentFace, LevelFaces, NoVolume}
use Rattle.drawing.specs.Chains.{Linked}
use Rattle.drawing.specs.Nets.{Net, no_point, starts_of, Matched, edges, Reached, Whole, bend, fold, content}
use Rattle.drawing.specs.Verdicts.{Tables, Counts, Followed, Missed, Named, Used, Repeated, Draws, Drawn, Passes}
use Rattle.drawing.proofs.Following.{each_once, rounds_take}
use Rattle.drawing.proofs.Linking.{linked_once, draws_once}
use Rattle.drawing.proofs.Lows.{no_lowest}

module _ (t : Tables) where
  pub passes_counts : Counts (length t.points) (length t.corners) (length t.faces) → Passes t TableCount
  passes_counts h p f = f.1 h

  pub passes_coordinates : ((q : ℕ) → q < length t.points → Near (get_or t.points q no_point)) → Passes t Coordinate
  passes_coordinates h = no_lowest _ _ (λ k lt out. out (h k lt))

  -- faces that all have chains have them up to any face
  followed : (next : List ℕ) → Linked t.corners t.faces next → (f : ℕ) → Followed t.corners t.faces f
  followed next l f = record { rounds = take (f + 1) l.rounds; drawn = rounds_take t.corners t.faces l.rounds (f + 1) l.drawn }

  not_missed : (next : List ℕ) → Linked t.corners t.faces next → Missed t.corners t.faces → ⊥
  not_missed next l m =
      let same = each_once t.corners t.faces m.rounds l.rounds m.drawn.chains l.drawn.chains in
      m.missing (rw same at (l.covers m.corner m.within))

  pub passes_chains : (next : List ℕ) → Linked t.corners t.faces next → Passes t BrokenChain
  passes_chains next l p (inl low) = low.holds (followed next l low.index)
  passes_chains next l p (inr m) = not_missed next l m.1

  pub passes_numbers : ((k : ℕ) → k < length t.corners → Named t.corners (length t.points) k) → Passes t PointNumber
  passes_numbers h = no_lowest _ _ (λ k lt out. out (h k lt))

  pub passes_used : ((q : ℕ) → q < length t.points → Used t.corners q) → Passes t LoosePoint
  passes_used h = no_lowest _ _ (λ k lt out. out (h k lt))

  pub passes_distinct : ((q : ℕ) → q < length t.points → Repeated t.points q → ⊥) → Passes t DoublePoint
  passes_distinct h = no_lowest _ _ h

  pub passes_matched : (next : List ℕ) → Linked t.corners t.faces next → ((e : ℕ) → e < length t.corners → Matched (starts_of t.corners) next e) → Passes t UnmatchedEdge
  passes_matched next l h p f =
      let same = linked_once t.corners t.faces next f.0 l f.1 in
      f.2.holds (rw same (h f.2.index f.2.within))

  -- what fails of the net that the tables draw fails of no other
  module _ (m : Net) (d : Draws t m) (matched : (e : ℕ) → e < edges m → Matched m.starts m.next e) where
    other_net : (P : Net → Type 0) → (P m → ⊥) → Drawn t P → ⊥
    other_net P out h = out (subst P (draws_once t m h.net d h.draws (λ e lt n. n (matched e lt))) h.has)

    pub passes_whole : ((q : ℕ) → q < length t.points → Whole m q) → Passes t PinchedPoint
    passes_whole h p = other_net _ (no_lowest _ _ (λ k lt out. out (h k lt)) p)

    pub passes_reached : ((e : ℕ) → e < edges m → Reached m e) → Passes t UnreachedEdge
    passes_reached h p = other_net _ (no_lowest _ _ (λ k lt out. out (h k lt)) p)

    pub passes_flat : ((e : ℕ) → e < edges m → bend m e ≡ pos 0) → Passes t BentFace
    passes_flat h p = other_net _ (no_lowest _ _ (λ k lt out. out (h k lt)) p)

    pub passes_level : ((e : ℕ) → e < edges m → fold m e ≡ pos 0 → ⊥) → Passes t LevelFaces
    passes_level h p = other_net _ (no_lowest _ _ h p)

    pub passes_volume : pos 0 <ℤ content m.points m.starts d.linked.rounds → Passes t NoVolume
    passes_volume h p f =
        other_net _
        (λ g.
        let same = each_once t.corners t.faces d.linked.rounds g.0.rounds d.linked.drawn.chains g.0.drawn.chains in
        let low = rw same at g.1 in
        omega (arith, ints))
        f.1
