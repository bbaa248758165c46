-- The verdict of any tables is one: the first check that fails, at its place, or that none does.
use Rattle.std.proofs.Common.{◌≡◌, ℕ, ◌+◌, ◌<◌, ◌≤◌, cond, eqb, length, sym, refl, ap, ◌∙◌, subst, inl, inr, arith}
use Rattle.drawing.specs.declared.fault.Cause.{Cause}
use Rattle.drawing.specs.declared.fault.Cause.TheVariants.{TableCount, Coordinate, BrokenChain, PointNumber, LoosePoint, DoublePoint, UnmatchedEdge, PinchedPoint, UnreachedEdge, BentFace, LevelFaces, NoVolume}
use Rattle.drawing.specs.Causes.{Fault}
use Rattle.drawing.specs.Causes.{number}
use Rattle.drawing.specs.Lowest.{Lowest}
use Rattle.drawing.specs.Nets.{Net, Matched, edges, starts_of}
use Rattle.drawing.specs.Verdicts.{Tables, Draws, Drawn, Fails, Passes, Refused, Sound}
use Rattle.drawing.proofs.Following.{rounds_take}
use Rattle.drawing.proofs.Linking.{linked_once, draws_once, edge_count}
use Rattle.drawing.proofs.Lows.{lowest_once, none_lowest}
use Rattle.drawing.proofs.Ranks as ranks

-- the cause with a number
cause_at : ℕ → Cause
cause_at n =
    cond (eqb n 1) TableCount (cond (eqb n 2) Coordinate (cond (eqb n 3) BrokenChain (cond (eqb n 4) PointNumber
    (cond (eqb n 5) LoosePoint (cond (eqb n 6) DoublePoint (cond (eqb n 7) UnmatchedEdge (cond (eqb n 8) PinchedPoint
    (cond (eqb n 9) UnreachedEdge (cond (eqb n 10) BentFace (cond (eqb n 11) LevelFaces NoVolume))))))))))

cause_back : (c : Cause) → cause_at (number c) ≡ c
unfolding cause_at
cause_back TableCount = refl
cause_back Coordinate = refl
cause_back BrokenChain = refl
cause_back PointNumber = refl
cause_back LoosePoint = refl
cause_back DoublePoint = refl
cause_back UnmatchedEdge = refl
cause_back PinchedPoint = refl
cause_back UnreachedEdge = refl
cause_back BentFace = refl
cause_back LevelFaces = refl
cause_back NoVolume = refl

number_once : (c d : Cause) → number c ≡ number d → c ≡ d
number_once c d e = sym (cause_back c) ∙ (ap cause_at e ∙ cause_back d)

number_range : (c : Cause) → (1 ≤ number c) × (number c < 13)
number_range TableCount = (omega arith, omega arith)
number_range Coordinate = (omega arith, omega arith)
number_range BrokenChain = (omega arith, omega arith)
number_range PointNumber = (omega arith, omega arith)
number_range LoosePoint = (omega arith, omega arith)
number_range DoublePoint = (omega arith, omega arith)
number_range UnmatchedEdge = (omega arith, omega arith)
number_range PinchedPoint = (omega arith, omega arith)
number_range UnreachedEdge = (omega arith, omega arith)
number_range BentFace = (omega arith, omega arith)
number_range LevelFaces = (omega arith, omega arith)
number_range NoVolume = (omega arith, omega arith)

-- the checks with a lower number pass
abbrev pub Below : Tables → ℕ → Type 0
Below t n = ranks.Below number (Fails t) n

module _ (t : Tables) where
  pub below_none : Below t 1
  below_none c lt = absurd (omega (arith, (number_range c).0))

  pub below_more : (c : Cause) → Below t (number c) → Passes t c → Below t (number c + 1)
  below_more = ranks.below_more number (Fails t) number_once

  pub sound_below : Below t 13 → Sound t
  sound_below b c = b c (number_range c).1

  pub refused_below : (c : Cause) (f : Fault) → Below t (number c) → f.cause ≡ c → Fails t c f.place → Refused t f
  refused_below c f b e h = record {
    earlier = λ d lt. b d (rw e at lt);
    fails = subst (λ (x : Cause). Fails t x f.place) (sym e) h;
  }

  -- two nets that the tables draw are one, where no edge is unmatched
  pub drawn_once : Passes t UnmatchedEdge → (m n : Net) → Draws t m → Draws t n → n ≡ m
  drawn_once passes m n a b = draws_once t m n a b matched
    where
      matched : (e : ℕ) → e < edges m → (Matched m.starts m.next e → ⊥) → ⊥
      matched e lt out =
          let le : e < length t.corners = omega (arith, edge_count t m a) in
          none_lowest (length t.corners) (λ e. Matched (starts_of t.corners) m.next e → ⊥)
          (λ p low. passes p (m.next, a.linked, low)) e le (rw a.starts_are at out)

  lows_once : Passes t UnmatchedEdge → (n : Net → ℕ) (P : Net → ℕ → Type 0) (p q : ℕ) → Drawn t (λ m. Lowest (n m) (P m) p) → Drawn t (λ m. Lowest (n m) (P m) q) → p ≡ q
  lows_once passes n P p q a b =
      let same = drawn_once passes a.net b.net a.draws b.draws in
      lowest_once (n a.net) (P a.net) p q a.has (subst (λ (m : Net). Lowest (n m) (P m) q) same b.has)

  chains_once : (p q : ℕ) → Fails t BrokenChain p → Fails t BrokenChain q → p ≡ q
  chains_once p q (inl a) (inl b) = lowest_once _ _ p q a b
  chains_once p q (inl a) (inr b) = absurd (a.holds (record { rounds = _; drawn = rounds_take t.corners t.faces b.1.rounds (a.index + 1) b.1.drawn }))
  chains_once p q (inr a) (inl b) = absurd (b.holds (record { rounds = _; drawn = rounds_take t.corners t.faces a.1.rounds (b.index + 1) a.1.drawn }))
  chains_once p q (inr a) (inr b) = a.0 ∙ sym b.0

  -- a check that fails does so at one place
  fails_once : (c : Cause) → Below t (number c) → (p q : ℕ) → Fails t c p → Fails t c q → p ≡ q
  fails_once TableCount b p q f g = f.0 ∙ sym g.0
  fails_once Coordinate b p q f g = lowest_once _ _ p q f g
  fails_once BrokenChain b p q f g = chains_once p q f g
  fails_once PointNumber b p q f g = lowest_once _ _ p q f g
  fails_once LoosePoint b p q f g = lowest_once _ _ p q f g
  fails_once DoublePoint b p q f g = lowest_once _ _ p q f g
  fails_once UnmatchedEdge b p q f g =
      let same = linked_once t.corners t.faces f.0 g.0 f.1 g.1 in
      lowest_once _ _ p q f.2 (rw same at g.2)
  fails_once PinchedPoint b p q f g = lows_once (b UnmatchedEdge (omega arith)) _ _ p q f g
  fails_once UnreachedEdge b p q f g = lows_once (b UnmatchedEdge (omega arith)) _ _ p q f g
  fails_once BentFace b p q f g = lows_once (b UnmatchedEdge (omega arith)) _ _ p q f g
  fails_once LevelFaces b p q f g = lows_once (b UnmatchedEdge (omega arith)) _ _ p q f g
  fails_once NoVolume b p q f g = f.0 ∙ sym g.0

  pub refused_once : (f g : Fault) → Refused t f → Refused t g → f ≡ g
  refused_once f g a b =
      let one = ranks.first_once number (Fails t) number_once f.cause g.cause f.place g.place a.earlier a.fails b.earlier b.fails (fails_once f.cause a.earlier) in
      λ i. record { cause = one.0 i; place = one.1 i }

  pub sound_not_refused : (f : Fault) → Sound t → Refused t f → ⊥
  sound_not_refused f s r = s f.cause f.place r.fails
