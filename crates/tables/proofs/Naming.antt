-- The points that the first few corners name.
use Rattle.std.proofs.Common.{◌≡◌, ℕ, ◌-◌, ◌<◌, Bool, true, false, List, length, get_or, replicate, below_none}
use Rattle.std.proofs.lemmas.List.{length-replicate}
use Rattle.std.proofs.lemmas.Bool.{both_ways}
use Rattle.drawing.specs.declared.record.Corner.{Corner}
use Rattle.drawing.specs.Chains.{no_corner}
use Rattle.drawing.specs.Verdicts.{Used}
use Rattle.tables.specs.Marked.{mark}
use Rattle.tables.proofs.Marking.{none_marked}

-- the index of the point that a corner names
abbrev pub point_of : List Corner → ℕ → ℕ
point_of cs k = (get_or cs k no_corner).point - 1

-- The marks after the first n corners.
pub record Names (cs : List Corner) (n : ℕ) (marks : List Bool) : Type 0 where
  pub size : length marks ≡ 160
  pub marked : (q : ℕ) → mark marks q ≡ true → Used cs q
  pub named : (k : ℕ) → k < n → mark marks (point_of cs k) ≡ true

pub names_none : (cs : List Corner) → Names cs 0 (replicate 160 false)
names_none cs = record {
  size = length-replicate 160 false;
  marked = λ q h. absurd (both_ways _ (none_marked 160 q) h);
  named = below_none _;
}
