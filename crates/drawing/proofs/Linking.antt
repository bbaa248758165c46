-- The tables draw one net at the most, whose next edges are a permutation.
use Rattle.std.proofs.Common.{◌≡◌, ℕ, ◌-◌, ◌<◌, List, [], ◌∷◌, map, length, sym, ap, ◌∙◌, subst, inl, inr, arith}
use Rattle.std.specs.List.{AllByRecursion}
use Rattle.std.proofs.lemmas.List.{ext_get_or, length-map}
use Rattle.std.proofs.lemmas.Bool.{cases_eq}
use Rattle.drawing.specs.declared.record.Corner.{Corner}
use Rattle.drawing.specs.declared.record.Face.{Face}
use Rattle.drawing.specs.Lists.{at, ◌∈◌, Distinct, flat, rotated}
use Rattle.drawing.specs.Chains.{Linked}
use Rattle.drawing.specs.Nets.{Net, Runs, Matched, edges, start, end}
use Rattle.drawing.specs.Verdicts.{Tables, Draws}
use Rattle.drawing.proofs.Members.{in_left, in_right, in_cases, in_map, from_map, in_rotated, in_rotated_back, rotated_distinct, distinct_left, distinct_right, distinct_apart, map_once}
use Rattle.drawing.proofs.Following.{each_once, each_within}

-- two lists of next edges that go round the same chains agree on their corners
agree : (next other : List ℕ) (rounds : List (List ℕ)) → AllByRecursion (λ ks. map (at next) ks ≡ rotated ks) rounds → AllByRecursion (λ ks. map (at other) ks ≡ rotated ks) rounds → (k : ℕ) → k ∈ flat rounds → at next k ≡ at other k
agree next other [] a b k h = absurd h
agree next other (ks ∷ rounds) a b k h =
    elim (in_cases k ks (flat rounds) h) [ inl m ↦ one ks (a.0 ∙ sym b.0) m | inr m ↦ agree next other rounds a.1 b.1 k m ]
  where
    one : (js : List ℕ) → map (at next) js ≡ map (at other) js → k ∈ js → at next k ≡ at other k
    one [] e m = absurd m
    one (j ∷ js) e (inl q) = rw q (cc)
    one (j ∷ js) e (inr m) = one js (cc) m

module _ (cs : List Corner) (fs : List Face) where
  pub linked_once : (next other : List ℕ) → Linked cs fs next → Linked cs fs other → other ≡ next
  linked_once next other a b =
      let same = each_once cs fs a.rounds b.rounds a.drawn.chains b.drawn.chains in
      let turns = rw same at b.goes_round in
      ext_get_or 0 other next (b.size ∙ sym a.size)
      (λ i lt. agree other next a.rounds turns a.goes_round i (a.covers i (omega (arith, b.size))))

  module _ (next : List ℕ) (l : Linked cs fs next) where
    -- the next edge of a chain's corner is in the chain
    stays : (rounds : List (List ℕ)) → AllByRecursion (λ ks. map (at next) ks ≡ rotated ks) rounds → (k : ℕ) → k ∈ flat rounds → at next k ∈ flat rounds
    stays [] a k h = h
    stays (ks ∷ rounds) a k h =
        elim (in_cases k ks (flat rounds) h) [
          | inl m ↦ in_left (at next k) ks (flat rounds) (in_rotated (at next k) ks (rw a.0 at (in_map (at next) k ks m)))
          | inr m ↦ in_right (at next k) ks (flat rounds) (stays rounds a.1 k m)
        ]

    pub next_within : (k : ℕ) → k < length cs → at next k < length cs
    next_within k lt = each_within cs fs l.rounds (at next k) l.drawn.chains (stays l.rounds l.goes_round k (l.covers k lt))

    before : (rounds : List (List ℕ)) → AllByRecursion (λ ks. map (at next) ks ≡ rotated ks) rounds → (k : ℕ) → k ∈ flat rounds → (j : ℕ) × (j ∈ flat rounds) × (at next j ≡ k)
    before [] a k h = absurd h
    before (ks ∷ rounds) a k h =
        elim (in_cases k ks (flat rounds) h) [
          | inl m ↦
              let b = from_map (at next) k ks (rw (sym a.0) at (in_rotated_back k ks m)) in
              (b.0, in_left b.0 ks (flat rounds) b.1, b.2)
          | inr m ↦ let b = before rounds a.1 k m in (b.0, in_right b.0 ks (flat rounds) b.1, b.2)
        ]

    -- each edge is the next of some edge
    pub next_onto : (k : ℕ) → k < length cs → (j : ℕ) × (j < length cs) × (at next j ≡ k)
    next_onto k lt =
        let b = before l.rounds l.goes_round k (l.covers k lt) in
        (b.0, each_within cs fs l.rounds b.0 l.drawn.chains b.1, b.2)

    once : (rounds : List (List ℕ)) → Distinct (flat rounds) → AllByRecursion (λ ks. map (at next) ks ≡ rotated ks) rounds → (j k : ℕ) → j ∈ flat rounds → k ∈ flat rounds → at next j ≡ at next k → j ≡ k
    once [] d a j k h i e = absurd h
    once (ks ∷ rounds) d a j k h i e =
        elim (in_cases j ks (flat rounds) h) [
          | inl m ↦ elim (in_cases k ks (flat rounds) i) [
            | inl n ↦ map_once (at next) ks (rw (sym a.0) at (rotated_distinct ks (distinct_left ks (flat rounds) d))) j k m n e
            | inr n ↦ absurd (distinct_apart (at next j) ks (flat rounds) d (inside j m) (rw (sym e) at (stays rounds a.1 k n)))
          ]
          | inr m ↦ elim (in_cases k ks (flat rounds) i) [
            | inl n ↦ absurd (distinct_apart (at next k) ks (flat rounds) d (inside k n) (rw e at (stays rounds a.1 j m)))
            | inr n ↦ once rounds (distinct_right ks (flat rounds) d) a.1 j k m n e
          ]
        ]
      where
        inside : (x : ℕ) → x ∈ ks → at next x ∈ ks
        inside x m = in_rotated (at next x) ks (rw a.0 at (in_map (at next) x ks m))

    pub next_once : (j k : ℕ) → j < length cs → k < length cs → at next j ≡ at next k → j ≡ k
    next_once j k lj lk e = once l.rounds l.drawn.apart l.goes_round j k (l.covers j lj) (l.covers k lk) e

-- the opposite of an edge that is not unmatched
opposite_once : (starts next : List ℕ) (e f g : ℕ) → ((Matched starts next e → ⊥) → ⊥) → f < length starts → g < length starts
    → Runs starts next (at starts (at next e)) (at starts e) f → Runs starts next (at starts (at next e)) (at starts e) g → f ≡ g
opposite_once starts next e f g matched lf lg rf rg =
    elim (cases_eq f g) [
      | inl same ↦ same
      | inr ne ↦ absurd (matched (λ m. ne (m.back.only f lf rf ∙ sym (m.back.only g lg rg))))
    ]

pub edge_count : (t : Tables) (m : Net) → Draws t m → edges m ≡ length t.corners
edge_count t m a = ap length a.starts_are ∙ length-map t.corners (λ c. c.point - 1)

-- where no edge is unmatched, the tables draw one net
pub draws_once : (t : Tables) (m n : Net) → Draws t m → Draws t n → ((e : ℕ) → e < edges m → (Matched m.starts m.next e → ⊥) → ⊥) → n ≡ m
draws_once t m n a b matched =
    let points_same : n.points ≡ m.points = b.points_are ∙ sym a.points_are in
    let starts_same : n.starts ≡ m.starts = b.starts_are ∙ sym a.starts_are in
    let marks_same : n.marks ≡ m.marks = b.marks_are ∙ sym a.marks_are in
    let next_same : n.next ≡ m.next = linked_once t.corners t.faces m.next n.next a.linked b.linked in
    let ours = edge_count t m a in
    let theirs = edge_count t n b in
    let opposite_same : n.opposite ≡ m.opposite =
    ext_get_or 0 n.opposite m.opposite (b.opposite_size ∙ sym a.opposite_size)
    (λ e lt.
    let le : e < edges m = omega (arith, b.opposite_size) in
    let ln : e < edges n = omega (arith, b.opposite_size) in
    let runs : Runs m.starts m.next (end m e) (start m e) (at n.opposite e) =
    subst (λ (x : List ℕ). Runs m.starts x (at m.starts (at x e)) (at m.starts e) (at n.opposite e)) next_same
    (subst (λ (s : List ℕ). Runs s n.next (at s (at n.next e)) (at s e) (at n.opposite e)) starts_same (b.opposite_runs e ln)) in
    opposite_once m.starts m.next e (at n.opposite e) (at m.opposite e) (matched e le)
    (omega (arith, b.opposite_within e ln)) (a.opposite_within e le) runs (a.opposite_runs e le)) in
    λ i. record { points = points_same i; starts = starts_same i; marks = marks_same i; next = next_same i; opposite = opposite_same i }
