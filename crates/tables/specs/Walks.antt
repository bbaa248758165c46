-- How a walk goes on along the chains, and what it leaves.
use Rattle.std.specs.Prelude.{◌≡◌, ℕ, ◌-◌, ◌<◌, cond, List, [], ◌∷◌, ◌++◌, length, slice_set, Some, None, ◌==◌}
use Rattle.std.specs.List.{AllByRecursion}
use Rattle.drawing.specs.declared.record.Corner.{Corner}
use Rattle.drawing.specs.declared.record.Face.{Face}
use Rattle.drawing.specs.Causes.{Fault}
use Rattle.drawing.specs.declared.fault.Cause.TheVariants.{BrokenChain}
use Rattle.drawing.specs.Lists.{at, ◌∈◌, flat}
use Rattle.drawing.specs.Chains.{next_index, Chain, Rounds}
use Rattle.drawing.specs.Homes.{AtHome}
use Rattle.drawing.specs.Verdicts.{ChainFails}
use Rattle.tables.specs.declared.walk.Walk.{Walk}
use Rattle.tables.specs.Steps.{home_of}

-- One corner more, whose chain starts at the corner `home`.
pub record Meets (k home : ℕ) (before after : Walk) : Type 0 where
  pub order_is : after.order.items ≡ before.order.items ++ (k ∷ [])
  pub home_is : after.home ≡ slice_set before.home k (Some home)

-- The walk has gone on along these corners, whose chain starts at the corner number `first`.
pub record Onward (first : ℕ) (ks : List ℕ) (before after : Walk) : Type 0 where
  pub order_is : after.order.items ≡ before.order.items ++ ks
  pub homes : (k : ℕ) → k ∈ ks → home_of after.home k ≡ Some (first - 1)
  pub kept : (k : ℕ) → k ∈ before.order.items → home_of after.home k ≡ home_of before.home k

-- It has gone along the whole chain.
pub record Taken (cs : List Corner) (first : ℕ) (before after : Walk) : Type 0 where
  pub corners : List ℕ
  pub chain : Chain cs first corners
  pub onward : Onward first corners before after

-- The home of each corner of a chain is the chain's first corner.
abbrev pub HomeIs : (Walk) → List ℕ → Type 0
HomeIs w [] = Unit {0}
HomeIs w (k ∷ ks) = AllByRecursion (λ j. home_of w.home j ≡ Some k) (k ∷ ks)

-- The walk has gone along the chain of each face.
pub record WalkedAll (cs : List Corner) (fs : List Face) (w : Walk) : Type 0 where
  pub rounds : List (List ℕ)
  pub drawn : Rounds cs fs rounds
  pub order_is : w.order.items ≡ flat rounds
  pub homes : AllByRecursion (HomeIs w) rounds

-- A refusal since some corner was not met.
pub record NotMet (n : ℕ) (w : Walk) (f : Fault) : Type 0 where
  pub cause_is : f.cause ≡ BrokenChain
  pub place_is : f.place ≡ 0
  pub corner : ℕ
  pub within : corner < n
  pub unseen : home_of w.home corner ≡ None

-- The chains of all faces meet each corner, in this order, and these are the corners' homes.
pub record Complete (cs : List Corner) (fs : List Face) (order home : List ℕ) : Type 0 where
  pub rounds : List (List ℕ)
  pub drawn : Rounds cs fs rounds
  pub covers : (k : ℕ) → k < length cs → k ∈ flat rounds
  pub order_is : order ≡ flat rounds
  pub order_size : length order ≡ length cs
  pub home_size : length home ≡ length cs
  pub homes : AllByRecursion (AtHome home) rounds

-- A refusal for the chains.
pub record ChainRefused (cs : List Corner) (fs : List Face) (f : Fault) : Type 0 where
  pub cause_is : f.cause ≡ BrokenChain
  pub fails : ChainFails cs fs f.place

-- the next edge: that of the next corner, and at a chain's end that of the chain's first
abbrev pub next_of : List Corner → List ℕ → ℕ → ℕ
next_of cs home k = cond (next_index cs k == 0) (at home k) (next_index cs k - 1)
