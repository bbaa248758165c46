-- Steps of a function that permutes the numbers below n, and the marks of what it leads to.
use Rattle.std.proofs.Common.{◌≡◌, ℕ, zero, suc, ◌+◌, ◌-◌, ◌*◌, ◌<◌, Bool, true, false, ◌⊎◌, List, length, set, sym, refl, ap, ◌∙◌, inl, inr, suc-mul, suc-add, zero-add, zero-mul, le-mul_of_pos_right, add-one, arith, below_more}
use Rattle.std.proofs.lemmas.Bool.{cases_lt, both_ways}
use Rattle.tables.specs.Marked.{mark}
use Rattle.tables.specs.Turns.{times, Permutes, Rounded}
use Rattle.tables.proofs.Marking.{marked_here, marked_stays, marked_cases}

module _ (f : ℕ → ℕ) where
  pub times_add : (i j e : ℕ) → times f (i + j) e ≡ times f i (times f j e)
  times_add zero j e = ap (λ k. times f k e) (zero-add j)
  times_add (suc i) j e = ap (λ k. times f k e) (suc-add i j) ∙ ap f (times_add i j e)

  pub times_more : (k e : ℕ) → times f (k + 1) e ≡ f (times f k e)
  times_more k e = ap (λ j. times f j e) (add-one k)

  -- Round after round.
  times_rounds : (p e : ℕ) → times f p e ≡ e → (i : ℕ) → times f (i * p) e ≡ e
  times_rounds p e back zero = ap (λ k. times f k e) (zero-mul p)
  times_rounds p e back (suc i) = ap (λ k. times f k e) (suc-mul i p) ∙ times_add (i * p) p e ∙ ap (times f (i * p)) back ∙ times_rounds p e back i

  -- From each place of a round one comes to each.
  pub round_joins : (p e : ℕ) → 0 < p → times f p e ≡ e → (i j : ℕ) → (k : ℕ) × (times f k (times f i e) ≡ times f j e)
  round_joins p e pos back i j =
      let k = j + (i * p - i) in
      let sum : k + i ≡ j + i * p = omega (arith, le-mul_of_pos_right i pos) in
      (k, sym (times_add k i e) ∙ ap (λ n. times f n e) sum ∙ times_add j (i * p) e ∙ ap (times f j) (times_rounds p e back i))

  module _ (n : ℕ) (permutes : Permutes n f) where
    pub times_within : (k e : ℕ) → e < n → times f k e < n
    times_within zero e h = h
    times_within (suc k) e h = permutes.within _ (times_within k e h)

    times_once : (k d e : ℕ) → d < n → e < n → times f k d ≡ times f k e → d ≡ e
    times_once zero d e h l same = same
    times_once (suc k) d e h l same = times_once k d e h l (permutes.once _ _ (times_within k d h) (times_within k e l) same)

    -- Where a place is met again, so is the first.
    pub comes_round : (i k e : ℕ) → e < n → i < k → times f i e ≡ times f k e → times f (k - i) e ≡ e
    comes_round i k e h l same =
        let sum : i + (k - i) ≡ k = omega arith in
        sym (times_once i e (times f (k - i) e) h (times_within (k - i) e h) (same ∙ ap (λ j. times f j e) (sym sum) ∙ times_add i (k - i) e))

  -- The marks after the first k places, of which e is the next.
  pub record Going (first : ℕ) (before after : List Bool) (e : ℕ) : Type 0 where
    pub steps : ℕ
    pub here : times f steps first ≡ e
    pub stays : (d : ℕ) → mark before d ≡ true → mark after d ≡ true
    pub marked : (i : ℕ) → i < steps → mark after (times f i first) ≡ true
    pub only : (d : ℕ) → mark after d ≡ true → (mark before d ≡ true) ⊎ ((i : ℕ) × (i < steps) × (times f i first ≡ d))

  pub going_on : (first e : ℕ) (before after : List Bool) → e < length after → Going first before after e → Going first before (set after e true) (f e)
  going_on first e before after h g = record {
    steps = g.steps + 1;
    here = times_more g.steps first ∙ ap f g.here;
    stays = λ d m. marked_stays after e d (g.stays d m);
    marked = below_more _ _ (λ i l. marked_stays after e _ (g.marked i l)) (rw g.here (marked_here after e h));
    only = λ d m.
        elim (marked_cases after e d m) [
          | inl is ↦ inr (g.steps, omega arith, g.here ∙ sym is)
          | inr was ↦ elim (g.only d was) [ inl old ↦ inl old | inr new ↦ inr (new.0, omega (arith, new.1), new.2) ]
        ];
  }

  -- One of the first k places is the k-th, so all are among these.
  places : (first k i : ℕ) → i < k → times f i first ≡ times f k first → (j : ℕ) → (h : ℕ) × (h < k) × (times f h first ≡ times f j first)
  places first k i l met zero = (0, omega arith, refl)
  places first k i l met (suc j) =
      let (h, under, same) = places first k i l met j in
      elim (cases_lt (h + 1) k) [
        | inl more ↦ (h + 1, more, times_more h first ∙ ap f same)
        | inr last ↦
            let end : k ≡ h + 1 = omega arith in
            (i, l, met ∙ ap (λ n. times f n first) end ∙ times_more h first ∙ ap f same)
      ]

  pub going_ends : (n first e : ℕ) (before after : List Bool) → Permutes n f → first < n → ((k : ℕ) → mark before (times f k first) ≡ false)
      → Going first before after e → mark after e ≡ true → Rounded f first before after
  going_ends n first e before after permutes h fresh g met =
      elim (g.only e met) [
        | inl old ↦ absurd (both_ways _ (fresh g.steps) (rw g.here old))
        | inr new ↦
            let again : times f new.0 first ≡ times f g.steps first = new.2 ∙ sym g.here in
            record {
              stays = g.stays;
              goes = λ k. let p = places first g.steps new.0 new.1 again k in rw (← p.2) (g.marked p.0 p.1);
              only = λ d m. elim (g.only d m) [ inl o ↦ inl o | inr w ↦ inr (w.0, w.2) ];
              period = g.steps - new.0;
              positive = omega (arith, new.1);
              comes_back = comes_round n permutes new.0 g.steps first h new.1 again;
            }
      ]
