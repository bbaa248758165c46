-- One edge more in the table of pairs, and what the table says of an edge.
use Rattle.std.proofs.Common.{◌≡◌, ◌≢◌, ℕ, zero, suc, ◌+◌, ◌*◌, ◌<◌, ◌⊎◌, Bool, true, false, cond, ltb, None, Some, List, length, set, ap, add-one, replicate, sym, refl, ◌∙◌, subst, inl, inr, arith, length-set, get_or-set_other, get_or-set_same}
use lib.ListN.{length-replicate}
use Rattle.std.proofs.lemmas.List.{get_or-replicate}
use Rattle.std.proofs.lemmas.Bool.{cases_eq, lt-ltb}
use Rattle.drawing.specs.Lists.{at}
use Rattle.drawing.specs.Nets.{Runs, Once, Matched}
use Rattle.tables.specs.Pairs.{Between, Nothing, One, Several, between, alone, between_at, Tally, Alone, Tallied, Bounded, Faces}

-- what an entry stands for, with the edge n too
abbrev pub with_edge : ℕ → Between → Between
with_edge n Nothing = One n
with_edge n (One v) = Several
with_edge n Several = Several

pub between_one : (e : ℕ) → e < 480 → between (e + 1) ≡ One e
between_one e lt = rw (add-one, lt-ltb e 480 lt) refl

pub between_again : (v n : ℕ) → (v ≡ 0 → ⊥) → with_edge n (between v) ≡ Several
between_again zero n some = absurd (some refl)
between_again (suc e) n some = either (ltb e 480)
  where
    either : (b : Bool) → with_edge n (cond b (One e) Several) ≡ Several
    either true = refl
    either false = refl

module _ (n : ℕ) (P : ℕ → Type 0) where
  last_or_before : (e : ℕ) → e < n + 1 → (e ≡ n) ⊎ (e < n)
  last_or_before e lt = elim (cases_eq e n) [ inl a ↦ inl a | inr b ↦ inr (omega arith) ]

  -- an edge without the property changes nothing
  pub tally_skip : (v : Between) → Tally n P v → (P n → ⊥) → Tally (n + 1) P v
  tally_skip Nothing none out = λ e lt p. elim (last_or_before e lt) [ inl a ↦ out (subst P a p) | inr b ↦ none e b p ]
  tally_skip (One v) t out = record {
    within = omega (arith, t.within);
    has = t.has;
    only = λ e lt p. elim (last_or_before e lt) [ inl a ↦ absurd (out (subst P a p)) | inr b ↦ t.only e b p ];
  }
  tally_skip Several many out = λ k f. many k (λ e lt p. f e (omega arith) p)

  -- one with the property more
  pub tally_more : (v : Between) → Tally n P v → P n → Tally (n + 1) P (with_edge n v)
  tally_more Nothing none p = record {
    within = omega arith;
    has = p;
    only = λ e lt q. elim (last_or_before e lt) [ inl a ↦ a | inr b ↦ absurd (none e b q) ];
  }
  tally_more (One v) t p = λ k f. omega (arith, f n (omega arith) p, f v (omega (arith, t.within)) t.has, t.within)
  tally_more Several many p = λ k f. many k (λ e lt q. f e (omega arith) q)

module _ (starts next : List ℕ) where
  pub tallied_none : Tallied starts next 0 (replicate 25600 0)
  tallied_none = record {
    size = length-replicate {A = ℕ} 25600 0;
    each = λ a b la lb. rw (get_or-replicate {A = ℕ} 25600 (a * 160 + b) 0 0 (omega arith)) (λ e lt p. omega arith);
  }

  module _ (n : ℕ) (table : List ℕ) (t : Tallied starts next n table) (la : at starts n < 160) (lb : at starts (at next n) < 160) where
    abbrev pair : ℕ
    pair = at starts n * 160 + at starts (at next n)

    pub tallied_more : (w : ℕ) → between w ≡ with_edge n (between_at table pair) → Tallied starts next (n + 1) (set table pair w)
    tallied_more w is = record {
      size = length-set table pair w ∙ t.size;
      each = λ a b ka kb.
          let old = t.each a b ka kb in
          elim (cases_eq (a * 160 + b) pair) [
            | inl e ↦
                let ea : a ≡ at starts n = omega arith in
                let eb : b ≡ at starts (at next n) = omega arith in
                let now_at : between_at (set table pair w) (a * 160 + b) ≡ with_edge n (between_at table (a * 160 + b)) =
                rw e (ap between (get_or-set_same table pair w 0 (omega (arith, t.size))) ∙ is) in
                rw now_at (tally_more n (Runs starts next a b) _ old (record { from = sym ea; to = sym eb }))
            | inr ne ↦
                rw (get_or-set_other table pair (a * 160 + b) w 0 ne)
                (tally_skip n (Runs starts next a b) _ old (λ r. ne (rw (r.from, r.to) refl)))
          ];
    }

-- an entry of which just one edge has the property stands for one edge
pub alone_stands : (n : ℕ) (P : ℕ → Type 0) (v : Between) → Tally n P v → Once n P → alone v ≡ None → ⊥
alone_stands n P Nothing none o e = none o.one o.within o.has
alone_stands n P (One v) t o e = cc
alone_stands n P Several many o e = many o.one o.only

pub alone_is : (n : ℕ) (P : ℕ → Type 0) (v : Between) (f : ℕ) → Tally n P v → alone v ≡ Some f → Alone n P f
alone_is n P Nothing f t e = cc
alone_is n P (One v) f t e = let same : v ≡ f = cc in rw (sym same) t
alone_is n P Several f t e = cc

-- what the whole table says of the edge e
module _ (starts next table : List ℕ) (bd : Bounded starts next) (t : Tallied starts next (length starts) table) (e : ℕ) (lt : e < length starts) where
  abbrev a : ℕ
  a = at starts e

  abbrev b : ℕ
  b = at starts (at next e)

  there : Tally (length starts) (Runs starts next a b) (between_at table (a * 160 + b))
  there = t.each a b (bd.start_within e lt) (bd.start_within (at next e) (bd.next_within e lt))

  back : Tally (length starts) (Runs starts next b a) (between_at table (b * 160 + a))
  back = t.each b a (bd.start_within (at next e) (bd.next_within e lt)) (bd.start_within e lt)

  pub not_there : alone (between_at table (a * 160 + b)) ≡ None → Matched starts next e → ⊥
  not_there none m = alone_stands _ _ _ there m.there none

  pub not_back : alone (between_at table (b * 160 + a)) ≡ None → Matched starts next e → ⊥
  not_back none m = alone_stands _ _ _ back m.back none

  pub faces : a ≢ b → (v f : ℕ) → alone (between_at table (a * 160 + b)) ≡ Some v → alone (between_at table (b * 160 + a)) ≡ Some f → Faces starts next e f
  faces ne v f one_there one_back =
      let p = alone_is _ _ _ v there one_there in
      let q = alone_is _ _ _ f back one_back in
      record {
        matched = record {
          apart = ne;
          there = record { one = v; within = p.within; has = p.has; only = p.only };
          back = record { one = f; within = q.within; has = q.has; only = q.only };
        };
        within = q.within;
        runs = q.has;
      }
