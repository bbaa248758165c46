-- A walk along one chain: what it has passed, where it may go on, and when there is no chain.
use Rattle.std.proofs.Common.{◌≡◌, ℕ, ◌+◌, ◌-◌, ◌<◌, ◌≤◌, ◌≢◌, List, [], ◌∷◌, ◌++◌, length, Some, None, sym, ◌∙◌, inl, inr, arith, length-append, get_or-set_other, get_or-set_same}
use Rattle.std.specs.Option.{IsSome}
use Rattle.std.proofs.lemmas.List.{append-nil, append_assoc}
use Rattle.drawing.specs.declared.record.Corner.{Corner}
use Rattle.drawing.specs.Lists.{◌∈◌, Distinct}
use Rattle.drawing.specs.Chains.{next_index, Follows, Chain}
use Rattle.drawing.proofs.Members.{in_left, in_right, in_cases, in_one, distinct_apart}
use Rattle.drawing.proofs.Following.{follows_push, follows_split, follows_none}
use Rattle.tables.specs.declared.walk.Walk.{Walk}
use Rattle.tables.specs.Steps.{home_of}
use Rattle.tables.specs.Walks.{Meets, Onward, Taken}
use Rattle.tables.proofs.Meeting.{seen}

-- Since `before`, the walk has passed some corners from the number `first` on, and stands at `number`.
pub record Walking (cs : List Corner) (first : ℕ) (before now : Walk) (number : ℕ) : Type 0 where
  pub passed : List ℕ
  pub follows : Follows cs first passed number
  pub onward : Onward first passed before now
  pub begun : 0 < number → 0 < first

module _ (cs : List Corner) (first : ℕ) where
  module _ (before w : Walk) (number : ℕ) (g : Walking cs first before w number) where
    -- no fewer corners than before
    pub more : length before.order.items ≤ length w.order.items
    more = rw g.onward.order_is (omega (arith, length-append before.order.items g.passed))

    -- one corner more
    pub walking_more : (after : Walk) (k : ℕ) → number ≡ k + 1 → k < length cs → k < 480 → Meets k (first - 1) w after → Walking cs first before after (next_index cs k)
    walking_more after k e lt small m =
        let o = g.onward in
        let ne : (j : ℕ) → j ∈ w.order.items → j ≢ k = λ j h same. distinct_apart j w.order.items (k ∷ []) (rw m.order_is at after.apart) h (inl same) in
        let kept : (j : ℕ) → j ≢ k → home_of after.home j ≡ home_of w.home j = λ j n. rw m.home_is (get_or-set_other w.home k j (Some (first - 1)) None n) in
        let homed : home_of after.home k ≡ Some (first - 1) = rw m.home_is (get_or-set_same w.home k (Some (first - 1)) None (omega (arith, w.steady.size))) in
        record {
          passed = g.passed ++ (k ∷ []);
          follows = follows_push cs first g.passed number k g.follows e lt;
          onward = record {
            order_is = m.order_is ∙ rw o.order_is (append_assoc before.order.items g.passed (k ∷ []));
            homes = λ j h. elim (in_cases j g.passed (k ∷ []) h) [
              | inl a ↦ kept j (ne j (rw o.order_is (in_right j before.order.items g.passed a))) ∙ o.homes j a
              | inr b ↦ rw (in_one j k b) homed
            ];
            kept = λ j h. kept j (ne j (rw o.order_is (in_left j before.order.items g.passed h))) ∙ o.kept j h;
          };
          begun = λ h. g.begun (omega arith);
        }

    -- no chain goes out of the table
    pub leads_out : 0 < number → length cs < number → (ks : List ℕ) → Chain cs first ks → ⊥
    leads_out h out ks c =
        let b = follows_split cs first g.passed ks number g.follows c.follows in
        ends b.rest b.goes_on
      where
        ends : (rest : List ℕ) → Follows cs number rest 0 → ⊥
        ends [] f = omega arith
        ends (k ∷ rest) f = omega arith

    -- or to a corner that was met before
    pub meets_again : (k : ℕ) → number ≡ k + 1 → IsSome (home_of w.home k) → (ks : List ℕ) → Chain cs first ks → Distinct (before.order.items ++ ks) → ⊥
    meets_again k e met ks c d =
        let b = follows_split cs first g.passed ks number g.follows c.follows in
        let seen = rw g.onward.order_is at (seen _ _ w.steady k met) in
        again b.rest b.goes_on (rw (b.splits, sym (append_assoc before.order.items g.passed b.rest)) at d) seen
      where
        again : (rest : List ℕ) → Follows cs number rest 0 → Distinct ((before.order.items ++ g.passed) ++ rest) → k ∈ (before.order.items ++ g.passed) → ⊥
        again [] f d s = omega arith
        again (j ∷ rest) f d s = let same : k ≡ j = omega arith in distinct_apart k (before.order.items ++ g.passed) (j ∷ rest) d s (inl same)

    -- at the end: a chain, or too short a one
    module _ (z : number ≡ 0) where
      ends_here : Follows cs first g.passed 0
      ends_here = rw (sym z) g.follows

      long : length w.order.items ≡ length before.order.items + length g.passed
      long = rw g.onward.order_is (length-append before.order.items g.passed)

      pub taken : 3 ≤ length w.order.items - length before.order.items → Taken cs first before w
      taken h = record {
        corners = g.passed;
        chain = record { follows = ends_here; three = omega (arith, long) };
        onward = g.onward;
      }

      pub too_short : length w.order.items - length before.order.items < 3 → (ks : List ℕ) → Chain cs first ks → ⊥
      too_short h ks c =
          let b = follows_split cs first g.passed ks 0 ends_here c.follows in
          let same : ks ≡ g.passed = b.splits ∙ rw (follows_none cs b.rest b.goes_on) (append-nil g.passed) in
          let three = rw same at c.three in
          omega (arith, long)
