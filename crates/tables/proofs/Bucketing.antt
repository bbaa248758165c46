-- The walk along a bucket, and the next point put into its bucket.
use Rattle.std.proofs.Common.{◌≡◌, ◌≢◌, ℕ, ◌+◌, ◌<◌, Option, None, Some, MatchOption, List, length, get_or, set, replicate, sym, ap, ◌∙◌, subst, inl, inr, arith, below_none, below_more}
use Rattle.std.proofs.lemmas.List.{length-set, length-replicate, get_or-set_same, get_or-set_other, get_or-replicate}
use Rattle.std.proofs.lemmas.Bool.{cases_eq, cases_order}
use Rattle.solid.specs.declared.Point.{Point}
use Rattle.drawing.specs.Nets.{no_point}
use Rattle.drawing.specs.Verdicts.{Repeated}
use Rattle.tables.specs.Buckets.{bucket_of, bucket_at, entry, Last, LinkedTo, Heads}

-- The point r, before p and of its bucket: no point between has p's coordinates.
pub record Stands (ps : List Point) (p r : ℕ) : Type 0 where
  pub before : r < p
  pub there : bucket_at ps r ≡ bucket_at ps p
  pub differ : (q : ℕ) → r < q → q < p → get_or ps q no_point ≡ get_or ps p no_point → ⊥

-- A walk back along the bucket of p stands at a point, or has ended: no point before p has its coordinates.
abbrev pub Walk : List Point → ℕ → Option ℕ → Type 0
Walk ps p place = MatchOption place ((q : ℕ) → q < p → get_or ps q no_point ≡ get_or ps p no_point → ⊥) (Stands ps p)

-- how many points a walk can still come to
abbrev pub to_come : Option ℕ → ℕ
to_come None = 0
to_come (Some r) = r + 1

module _ (ps : List Point) (p r : ℕ) (walk : Stands ps p r) where
  pub walk_goes_on : (get_or ps r no_point ≡ get_or ps p no_point → ⊥) → (next : Option ℕ) → Last ps r (bucket_at ps r) next → Walk ps p next
  walk_goes_on differs None none = λ q b e.
      elim (cases_order q r) [
        | inl is ↦ differs (rw is at e)
        | inr h ↦ elim h [ inl l ↦ none q l (ap bucket_of e ∙ sym walk.there) | inr g ↦ walk.differ q g b e ]
      ]
  walk_goes_on differs (Some s) l = record {
    before = omega (arith, l.before, walk.before);
    there = l.there ∙ walk.there;
    differ = λ q a b e.
        elim (cases_order q r) [
          | inl is ↦ differs (rw is at e)
          | inr h ↦ elim h [ inl less ↦ l.between q a less (ap bucket_of e ∙ sym walk.there) | inr g ↦ walk.differ q g b e ]
        ];
  }

-- The tables after the first n points, none of which has the coordinates of an earlier one.
pub record Filled (ps : List Point) (n : ℕ) (heads links : List (Option ℕ)) : Type 0 where
  pub heads_size : length heads ≡ 251
  pub links_size : length links ≡ 160
  pub headed : Heads ps n heads
  pub linked : LinkedTo ps n links
  pub distinct : (q : ℕ) → q < n → Repeated ps q → ⊥

pub filled_none : (ps : List Point) → Filled ps 0 (replicate 251 None) (replicate 160 None)
filled_none ps = record {
  heads_size = length-replicate {A = Option ℕ} 251 None;
  links_size = length-replicate {A = Option ℕ} 160 None;
  headed = λ b h. rw (get_or-replicate {A = Option ℕ} 251 b None None h) (λ q l. absurd (omega arith));
  linked = below_none _;
  distinct = below_none _;
}

-- a point of another bucket is the last of none but its own
last_kept : (ps : List Point) (n b : ℕ) (last : Option ℕ) → Last ps n b last → bucket_at ps n ≢ b → Last ps (n + 1) b last
last_kept ps n b None l ne = below_more _ _ l ne
last_kept ps n b (Some r) l ne = record {
  before = omega (arith, l.before);
  there = l.there;
  between = λ q a h. elim (cases_eq q n) [ inl e ↦ rw e ne | inr other ↦ l.between q a (omega arith) ];
}

pub filled_more : (ps : List Point) (n b : ℕ) (heads links : List (Option ℕ)) → n < 160 → Filled ps n heads links → b ≡ bucket_at ps n → b < 251
    → (Repeated ps n → ⊥) → Filled ps (n + 1) (set heads b (Some n)) (set links n (entry heads b))
filled_more ps n b heads links h old is lt new = record {
  heads_size = length-set _ _ _ ∙ old.heads_size;
  links_size = length-set _ _ _ ∙ old.links_size;
  headed = λ a l.
      elim (cases_eq a b) [
        | inl e ↦ rw (e, get_or-set_same heads b (Some n) None (omega (arith, old.heads_size)))
            (record { before = omega arith; there = sym is; between = λ q j k. absurd (omega arith) })
        | inr ne ↦ rw (get_or-set_other heads b a (Some n) None ne)
            (last_kept ps n a (entry heads a) (old.headed a l) (λ o. ne (sym o ∙ sym is)))
      ];
  linked = below_more _ _
      (λ q l. let other : q ≡ n → ⊥ = λ e. omega arith in rw (get_or-set_other links n q (entry heads b) None other) (old.linked q l))
      (rw (get_or-set_same links n (entry heads b) None (omega (arith, old.links_size))) (let P : ℕ → Type 0 = λ a. Last ps n a (entry heads b) in subst P is (old.headed b lt)));
  distinct = below_more _ _ old.distinct new;
}
