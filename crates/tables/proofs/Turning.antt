-- The edges that leave a point, turned about it, and which points have them all marked.
use Rattle.std.proofs.Common.{◌≡◌, ℕ, zero, suc, ◌+◌, ◌<◌, ◌≤◌, Bool, true, false, List, length, set, replicate, sym, refl, ap, ◌∙◌, inl, inr, arith, below_none, below_more}
use Rattle.std.proofs.lemmas.List.{length-set, length-replicate, get_or-replicate}
use Rattle.std.proofs.lemmas.Bool.{cases_Bool, both_ways}
use Rattle.drawing.specs.Lists.{at}
use Rattle.drawing.specs.Nets.{Net, Mesh, Whole, turned}
use Rattle.tables.specs.Bare.{bare}
use Rattle.tables.specs.Marked.{mark}
use Rattle.tables.specs.Turns.{turn_of, times, Permutes, Rounded, Turned, AllMarked}
use Rattle.tables.proofs.Cycles.{round_joins, times_within}
use Rattle.tables.proofs.Marking.{none_marked, marked_here, marked_stays, marked_cases}

module _ (starts next opposite : List ℕ) where
  abbrev f : ℕ → ℕ
  f = turn_of next opposite

  -- After the first n edges: which points have been turned about, and the marks of the edges met.
  pub record Begun (n : ℕ) (begun marks : List Bool) : Type 0 where
    pub begun_size : length begun ≡ 160
    pub size : length marks ≡ 480
    pub closed : (e : ℕ) → mark marks e ≡ true → mark marks (f e) ≡ true
    pub joined : (d e : ℕ) → mark marks d ≡ true → mark marks e ≡ true → at starts d ≡ at starts e → (k : ℕ) × (times f k d ≡ e)
    pub begins : (e : ℕ) → mark marks e ≡ true → mark begun (at starts e) ≡ true
    pub some : (q : ℕ) → mark begun q ≡ true → (d : ℕ) × (d < length starts) × (at starts d ≡ q) × (mark marks d ≡ true)
    pub passed : (e : ℕ) → e < n → mark begun (at starts e) ≡ true

  module _ (points : ℕ) (mesh : Mesh points (bare starts next opposite)) where
    pub turn_permutes : Permutes (length starts) f
    turn_permutes = record {
      within = λ e h. mesh.next_within _ (mesh.opposite_within e h);
      once = λ d e h l same.
          let opposites = mesh.next_once _ _ (mesh.opposite_within d h) (mesh.opposite_within e l) same in
          sym (mesh.opposite_twice d h) ∙ ap (at opposite) opposites ∙ mesh.opposite_twice e l;
    }

    turns_start : (k e : ℕ) → e < length starts → at starts (times f k e) ≡ at starts e
    turns_start zero e h = refl
    turns_start (suc k) e h = mesh.opposite_end (times f k e) (times_within f _ turn_permutes k e h) ∙ turns_start k e h

    pub begun_none : Begun 0 (replicate 160 false) (replicate 480 false)
    begun_none =
        let none : (e : ℕ) → mark (replicate 480 false) e ≡ true → ⊥ = λ e h. both_ways _ (none_marked 480 e) h in
        record {
          begun_size = length-replicate 160 false;
          size = length-replicate 480 false;
          closed = λ e h. absurd (none e h);
          joined = λ d e h _ _. absurd (none d h);
          begins = λ e h. absurd (none e h);
          some = λ q h. absurd (both_ways _ (none_marked 160 q) h);
          passed = below_none _;
        }

    -- No edge that leaves a point has a mark before it is turned about.
    pub begun_fresh : (n : ℕ) (begun marks : List Bool) → n < length starts → Begun n begun marks → mark begun (at starts n) ≡ false
        → (k : ℕ) → mark marks (times f k n) ≡ false
    begun_fresh n begun marks h old new k =
        elim (cases_Bool (mark marks (times f k n)))
        [ inl t ↦ absurd (both_ways _ new (rw (turns_start k n h) at (old.begins _ t))) | inr no-mark ↦ no-mark ]

    pub begun_same : (n : ℕ) (begun marks : List Bool) → Begun n begun marks → mark begun (at starts n) ≡ true → Begun (n + 1) begun marks
    begun_same n begun marks old here = record {
      begun_size = old.begun_size;
      size = old.size;
      closed = old.closed;
      joined = old.joined;
      begins = old.begins;
      some = old.some;
      passed = below_more _ _ old.passed here;
    }

    pub begun_more : (n : ℕ) (begun marks after : List Bool) → n < length starts → points ≤ 160 → Begun n begun marks
        → mark begun (at starts n) ≡ false → length after ≡ length marks → Rounded f n marks after
        → Begun (n + 1) (set begun (at starts n) true) after
    begun_more n begun marks after h few old new same round =
        let inside : at starts n < length begun = omega (arith, mesh.start_within n h, old.begun_size) in
        let apart : (d e : ℕ) (k : ℕ) → mark marks d ≡ true → times f k n ≡ e → at starts d ≡ at starts e → ⊥ =
        λ d e k m is starts_same. both_ways _ new (rw (starts_same ∙ ap (at starts) (sym is) ∙ turns_start k n h) at (old.begins d m)) in
        record {
          begun_size = length-set _ _ _ ∙ old.begun_size;
          size = same ∙ old.size;
          closed = λ e m.
              elim (round.only e m)
              [ inl was ↦ round.stays _ (old.closed e was) | inr now-met ↦ rw (← now-met.1) (round.goes (suc now-met.0)) ];
          joined = λ d e md me starts_same.
              elim (round.only d md) [
                | inl d-was ↦
                    elim (round.only e me)
                    [ inl e-was ↦ old.joined d e d-was e-was starts_same | inr e-met ↦ absurd (apart d e e-met.0 d-was e-met.1 starts_same) ]
                | inr d-met ↦
                    elim (round.only e me) [
                      | inl e-was ↦ absurd (apart e d d-met.0 e-was d-met.1 (sym starts_same))
                      | inr e-met ↦
                          let way = round_joins f round.period n round.positive round.comes_back d-met.0 e-met.0 in
                          (way.0, ap (times f way.0) (sym d-met.1) ∙ way.1 ∙ e-met.1)
                    ]
              ];
          begins = λ e m.
              elim (round.only e m) [
                | inl was ↦ marked_stays begun _ _ (old.begins e was)
                | inr met ↦
                    let back : at starts e ≡ at starts n = ap (at starts) (sym met.1) ∙ turns_start met.0 n h in
                    rw back (marked_here begun (at starts n) inside)
              ];
          some = λ q m.
              elim (marked_cases begun (at starts n) q m) [
                | inl is ↦ (n, h, sym is, round.goes 0)
                | inr was ↦ let d = old.some q was in (d.0, d.1, d.2, round.stays _ d.3)
              ];
          passed = below_more _ _ (λ e l. marked_stays begun _ _ (old.passed e l)) (marked_here begun _ inside);
        }

module _ (starts : List ℕ) (marks : List Bool) where
  -- After the first n edges: the points that none of them leaves which has no mark.
  pub record Full (n : ℕ) (full : List Bool) : Type 0 where
    pub size : length full ≡ 160
    pub good : (q : ℕ) → mark full q ≡ true → (e : ℕ) → e < n → at starts e ≡ q → mark marks e ≡ true
    pub bad : (q : ℕ) → q < 160 → mark full q ≡ false → (e : ℕ) × (e < length starts) × (at starts e ≡ q) × (mark marks e ≡ false)

  pub full_starts : Full 0 (replicate 160 true)
  full_starts = record {
    size = length-replicate 160 true;
    good = λ q m. below_none _;
    bad = λ q l no-mark. absurd (both_ways _ no-mark (get_or-replicate 160 q true false l));
  }

pub turned_times : (m : Net) (k e : ℕ) → turned m k e ≡ times (turn_of m.next m.opposite) k e
turned_times m zero e = refl
turned_times m (suc k) e = ap (turn_of m.next m.opposite) (turned_times m k e)

module _ (starts next opposite : List ℕ) (marks : List Bool) (turning : Turned starts next opposite marks) where
  marked_times : (k e : ℕ) → mark marks e ≡ true → mark marks (times (turn_of next opposite) k e) ≡ true
  marked_times zero e h = h
  marked_times (suc k) e h = turning.closed _ (marked_times k e h)

  -- Turning leads from each edge that leaves the point q to each if they are all marked ..
  pub whole_from_marks : (q : ℕ) → AllMarked starts marks q → Whole (bare starts next opposite) q
  whole_from_marks q all d e h l from to =
      let way = turning.joined d e (all d h from) (all e l to) (from ∙ sym to) in
      (way.0, turned_times (bare starts next opposite) way.0 d ∙ way.1)

  -- .. and only then.
  pub marks_from_whole : (q : ℕ) → Whole (bare starts next opposite) q → AllMarked starts marks q
  marks_from_whole q whole e h leaves =
      let d = turning.some e h in
      let way = whole d.0 e d.1 h (d.2 ∙ leaves) leaves in
      rw (sym (turned_times (bare starts next opposite) way.0 d.0) ∙ way.1) at (marked_times way.0 d.0 d.3)
