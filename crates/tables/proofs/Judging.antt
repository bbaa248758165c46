-- The answer of a check, in other words.
use Rattle.std.proofs.Common.{◌≡◌, ℕ, ◌<◌, ◌≤◌, Bool, true, false, List, Result, inl, inr, arith}
use Rattle.std.proofs.lemmas.Result.{MatchResult-weaker}
use Rattle.drawing.specs.declared.fault.Cause.{Cause}
use Rattle.drawing.specs.Causes.{Fault}
use Rattle.drawing.specs.Lowest.{Judges}
use Rattle.tables.specs.Marked.{mark, Marks}
use Rattle.std.proofs.lemmas.Bool.{cases_Bool}

-- Good and bad mean the same of each of the n records.
pub judges_as : {X : Type 0} (c : Cause) (n : ℕ) (G B G' B' : ℕ → Type 0) (r : Result X Fault)
    → ((k : ℕ) → k < n → G k → G' k) → ((k : ℕ) → k < n → B k → B' k) → ((k : ℕ) → k < n → B' k → B k)
    → Judges c n G B r → Judges c n G' B' r
judges_as c n G B G' B' r good bad back j =
    MatchResult-weaker r j (λ _ g k h. good k h (g k h))
    (λ f w. record {
      cause_is = w.cause_is;
      lowest = record {
        index = w.lowest.index;
        place_is = w.lowest.place_is;
        within = w.lowest.within;
        holds = bad _ w.lowest.within w.lowest.holds;
        below = λ k l b. w.lowest.below k l (back k (omega (arith, w.lowest.within)) b);
      };
    })

-- Where just those are marked of which P holds, the first with no mark is the first of which P does not hold.
pub judges_marked : {X : Type 0} (c : Cause) (n m : ℕ) (P : ℕ → Type 0) (marks : List Bool) (r : Result X Fault)
    → m ≤ n → Marks n P marks → Judges c m (λ k. mark marks k ≡ true) (λ k. mark marks k ≡ false) r
    → Judges c m P (λ k. P k → ⊥) r
judges_marked c n m P marks r le all j =
    judges_as c m _ _ _ _ r
    (λ k h t. all.marked k t)
    (λ k h f. all.unmarked k (omega arith) f)
    (λ k h no. elim (cases_Bool (mark marks k)) [ inl t ↦ absurd (no (all.marked k t)) | inr f ↦ f ])
    j
