-- A search that marks the edges which are reached from edge 1, and has those wait from which it has not gone on.
use Rattle.std.proofs.Common.{◌≡◌, ℕ, ◌<◌, Bool, true, false, cond, ◌⊎◌, List, [], ◌∷◌, ◌++◌, length, set, replicate, sym, refl, ap, ◌∙◌, inl, inr, arith}
use Rattle.std.proofs.lemmas.List.{length-set, length-replicate}
use Rattle.std.proofs.lemmas.Bool.{both_ways}
use Rattle.drawing.specs.Lists.{at, ◌∈◌}
use Rattle.drawing.specs.declared.step.Step.{Step}
use Rattle.drawing.specs.declared.step.Step.TheVariants.{Along, Across}
use Rattle.drawing.specs.Nets.{Net, step, leads, Reached}
use Rattle.drawing.proofs.Members.{in_left, in_last, in_or_last}
use Rattle.tables.specs.Bare.{bare}
use Rattle.tables.specs.Marked.{mark, Marks}
use Rattle.tables.proofs.Marking.{none_marked, marked_here, marked_stays, marked_cases}

-- The edge a has its mark now, and waits unless it had it.
record Visited (a : ℕ) (marks : List Bool) (wait : List ℕ) (marks' : List Bool) (wait' : List ℕ) : Type 0 where
  pub size : length marks' ≡ length marks
  pub here : mark marks' a ≡ true
  pub stays : (k : ℕ) → mark marks k ≡ true → mark marks' k ≡ true
  pub still : (k : ℕ) → k ∈ wait → k ∈ wait'
  pub fresh : (k : ℕ) → mark marks' k ≡ true → (mark marks k ≡ true) ⊎ ((k ≡ a) × (k ∈ wait'))
  pub joins : (k : ℕ) → k ∈ wait' → (k ∈ wait) ⊎ (k ≡ a)

visits_by : (a : ℕ) (marks : List Bool) (wait : List ℕ) (b : Bool) → mark marks a ≡ b → a < length marks
    → Visited a marks wait (set marks a true) (cond b wait (wait ++ (a ∷ [])))
visits_by a marks wait true e h = record {
  size = length-set marks a true;
  here = marked_here marks a h;
  stays = λ k m. marked_stays marks a k m;
  still = λ k i. i;
  fresh = λ k m. inl (elim (marked_cases marks a k m) [ inl is ↦ rw is e | inr was ↦ was ]);
  joins = λ k i. inl i;
}
visits_by a marks wait false e h = record {
  size = length-set marks a true;
  here = marked_here marks a h;
  stays = λ k m. marked_stays marks a k m;
  still = λ k i. in_left k wait _ i;
  fresh = λ k m. elim (marked_cases marks a k m) [ inl is ↦ inr (is, rw is (in_last wait a)) | inr was ↦ inl was ];
  joins = λ k i. in_or_last wait a k i;
}

visits : (a : ℕ) (marks marks' : List Bool) (wait wait' : List ℕ) → a < length marks
    → marks' ≡ set marks a true → wait' ≡ cond (mark marks a) wait (wait ++ (a ∷ [])) → Visited a marks wait marks' wait'
visits a marks marks' wait wait' h p q = rw (p, q) (visits_by a marks wait _ refl h)

module _ (next opposite : List ℕ) where
  -- the net of these edges
  abbrev m : Net
  m = bare [] next opposite

  -- The marks and the edges that wait, at the start of a turn.
  pub record Search (marks : List Bool) (wait : List ℕ) : Type 0 where
    pub size : length marks ≡ 480
    pub first : mark marks 0 ≡ true
    pub reached : (e : ℕ) → mark marks e ≡ true → Reached m e
    pub waits : (e : ℕ) → e ∈ wait → mark marks e ≡ true
    pub closed : (e : ℕ) → mark marks e ≡ true → (e ∈ wait) ⊎ ((mark marks (at next e) ≡ true) × (mark marks (at opposite e) ≡ true))

  leads_more : (w : List Step) (s : Step) (e : ℕ) → leads m (w ++ (s ∷ [])) e ≡ step m s (leads m w e)
  leads_more [] s e = refl
  leads_more (t ∷ w) s e = leads_more w s (step m t e)

  reached_more : (s : Step) (e : ℕ) → Reached m e → Reached m (step m s e)
  reached_more s e (w, h) = (w ++ (s ∷ []), leads_more w s 0 ∙ ap (step m s) h)

  pub search_starts : (marks : List Bool) (from wait : List ℕ) → from ≡ []
      → marks ≡ set (replicate 480 false) 0 true → wait ≡ cond (mark (replicate 480 false) 0) from (from ++ (0 ∷ [])) → Search marks wait
  search_starts marks from wait nil p q =
      let v = visits 0 (replicate 480 false) marks from wait (omega arith) p q in
      let only : (e : ℕ) → mark marks e ≡ true → (e ≡ 0) × (e ∈ wait) =
      λ e h. elim (v.fresh e h) [ inl was ↦ absurd (both_ways _ (none_marked 480 e) was) | inr new ↦ new ] in
      record {
        size = v.size ∙ length-replicate 480 false;
        first = v.here;
        reached = λ e h. ([], sym (only e h).0);
        waits = λ e i. elim (v.joins e i) [ inl i₀ ↦ absurd (rw nil at i₀) | inr is ↦ rw is v.here ];
        closed = λ e h. inl (only e h).1;
      }

  -- A turn: the last that waits is taken out, and its next edge and its opposite are visited.
  pub search_goes_on : (e : ℕ) (marks marks₁ marks₂ : List Bool) (from wait wait₁ wait₂ : List ℕ) → Search marks from → from ≡ wait ++ (e ∷ [])
      → at next e < 480 → marks₁ ≡ set marks (at next e) true → wait₁ ≡ cond (mark marks (at next e)) wait (wait ++ (at next e ∷ []))
      → at opposite e < 480 → marks₂ ≡ set marks₁ (at opposite e) true → wait₂ ≡ cond (mark marks₁ (at opposite e)) wait₁ (wait₁ ++ (at opposite e ∷ []))
      → Search marks₂ wait₂
  search_goes_on e marks marks₁ marks₂ from wait wait₁ wait₂ s is h₁ p₁ q₁ h₂ p₂ q₂ =
      let v = visits (at next e) marks marks₁ wait wait₁ (omega (arith, s.size)) p₁ q₁ in
      let w = visits (at opposite e) marks₁ marks₂ wait₁ wait₂ (omega (arith, s.size, v.size)) p₂ q₂ in
      let old : (k : ℕ) → mark marks k ≡ true → mark marks₂ k ≡ true = λ k h. w.stays k (v.stays k h) in
      let here = s.waits e (rw is (in_last wait e)) in
      record {
        size = w.size ∙ v.size ∙ s.size;
        first = old 0 s.first;
        reached = λ k h.
            elim (w.fresh k h) [
              | inl h₁ ↦ elim (v.fresh k h₁) [ inl h₀ ↦ s.reached k h₀ | inr new ↦ rw new.0 (reached_more Along e (s.reached e here)) ]
              | inr new ↦ rw new.0 (reached_more Across e (s.reached e here))
            ];
        waits = λ k i.
            elim (w.joins k i) [
              | inl i₁ ↦ elim (v.joins k i₁) [ inl i₀ ↦ old k (s.waits k (rw is (in_left k wait _ i₀))) | inr is ↦ w.stays k (rw is v.here) ]
              | inr is ↦ rw is w.here
            ];
        closed = λ k h.
            elim (w.fresh k h) [
              | inl h₁ ↦
                  elim (v.fresh k h₁) [
                    | inl h₀ ↦
                        elim (s.closed k h₀) [
                          | inl i ↦
                              elim (in_or_last wait e k (rw is at i)) [
                                | inl i₀ ↦ inl (w.still k (v.still k i₀))
                                | inr e≡ ↦ inr (rw e≡ (w.stays _ v.here), rw e≡ w.here)
                              ]
                          | inr c ↦ inr (old _ c.0, old _ c.1)
                        ]
                    | inr new ↦ inl (w.still k new.1)
                  ]
              | inr new ↦ inl new.1
            ];
      }

  leads_within : (n : ℕ) → ((e : ℕ) → e < n → at next e < n) → ((e : ℕ) → e < n → at opposite e < n)
      → (w : List Step) (e : ℕ) → e < n → leads m w e < n
  leads_within n p q [] e h = h
  leads_within n p q (Along ∷ w) e h = leads_within n p q w _ (p e h)
  leads_within n p q (Across ∷ w) e h = leads_within n p q w _ (q e h)

  -- The last that waits is an edge.
  pub search_within : (n : ℕ) → ((e : ℕ) → e < n → at next e < n) → ((e : ℕ) → e < n → at opposite e < n) → 0 < n
      → (e : ℕ) (marks : List Bool) (wait wait' : List ℕ) → wait ≡ wait' ++ (e ∷ []) → Search marks wait → e < n
  search_within n p q h e marks wait wait' is s =
      let r = s.reached e (s.waits e (rw is (in_last wait' e))) in
      rw r.1 at (leads_within n p q r.0 0 h)

  -- Where none waits, what is marked leads to nothing else.
  stays_marked : (marks : List Bool) → Search marks [] → (w : List Step) (e : ℕ) → mark marks e ≡ true → mark marks (leads m w e) ≡ true
  stays_marked marks s [] e h = h
  stays_marked marks s (Along ∷ w) e h = elim (s.closed e h) [ inl none ↦ absurd none | inr c ↦ stays_marked marks s w _ c.0 ]
  stays_marked marks s (Across ∷ w) e h = elim (s.closed e h) [ inl none ↦ absurd none | inr c ↦ stays_marked marks s w _ c.1 ]

  pub search_ends : (marks : List Bool) (wait : List ℕ) → wait ≡ [] → Search marks wait → Marks 480 (Reached m) marks
  search_ends marks wait nil s = record {
    size = s.size;
    marked = s.reached;
    unmarked = λ k h none r. both_ways _ none (rw r.1 at (stays_marked marks (rw nil at s) r.0 0 s.first));
  }
