-- The chains of the faces: the corners that are met when the next indices are followed.
use Rattle.std.specs.Prelude.{◌≡◌, ℕ, ◌+◌, ◌<◌, ◌≤◌, List, [], ◌∷◌, map, length, slice_index_or}
use Rattle.std.specs.List.{AllByRecursion}
use Rattle.drawing.specs.declared.record.Corner.{Corner}
use Rattle.drawing.specs.declared.record.Face.{Face}
use Rattle.drawing.specs.Lists.{at, ◌∈◌, Distinct, flat, rotated}

abbrev pub no_corner : Corner
no_corner = record { point = 0; mark = 0; next = 0 }

-- the next index of a corner
abbrev pub next_index : List Corner → ℕ → ℕ
next_index cs k = (slice_index_or cs k no_corner).next

-- From the corner number r on, the next indices lead through just these corners to the number s.
abbrev pub Follows : List Corner → ℕ → List ℕ → ℕ → Type 0
Follows cs r [] s = r ≡ s
Follows cs r (k ∷ ks) s = (r ≡ k + 1) × (k < length cs) × Follows cs (next_index cs k) ks s

-- The chain from a first corner: the corners up to a next index of zero, three or more.
pub record Chain (cs : List Corner) (first : ℕ) (ks : List ℕ) : Type 0 where
  pub follows : Follows cs first ks 0
  pub three : 3 ≤ length ks

-- one chain to a face, in order
abbrev pub EachChain : List Corner → List Face → List (List ℕ) → Type 0
EachChain cs [] [] = Unit {0}
EachChain cs [] (ks ∷ rounds) = ⊥
EachChain cs (f ∷ fs) [] = ⊥
EachChain cs (f ∷ fs) (ks ∷ rounds) = Chain cs f.first ks × EachChain cs fs rounds

-- The chains of the faces, in which no corner is met twice.
pub record Rounds (cs : List Corner) (fs : List Face) (rounds : List (List ℕ)) : Type 0 where
  pub chains : EachChain cs fs rounds
  pub apart : Distinct (flat rounds)

-- The chains of the faces, which meet each corner once, and the list of next edges, which goes round each chain.
pub record Linked (cs : List Corner) (fs : List Face) (next : List ℕ) : Type 0 where
  pub rounds : List (List ℕ)
  pub drawn : Rounds cs fs rounds
  pub covers : (k : ℕ) → k < length cs → k ∈ flat rounds
  pub size : length next ≡ length cs
  pub goes_round : AllByRecursion (λ ks. map (at next) ks ≡ rotated ks) rounds
