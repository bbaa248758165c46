-- The chains whose volume is summed, and the refusal of that volume.
use Rattle.std.specs.Prelude.{◌≡◌, ℕ, List, map, ℤ, pos, ◌≤ℤ◌}
use Rattle.std.specs.List.{AllByRecursion}
use Rattle.drawing.specs.Causes.{Fault}
use Rattle.drawing.specs.declared.fault.Cause.TheVariants.{NoVolume}
use Rattle.drawing.specs.Lists.{at, flat, rotated}
use Rattle.drawing.specs.Homes.{AtHome}

-- `order` lists the chains one after the other, `next` goes round each, and `home` leads to its first corner.
pub record Listed (next order home : List ℕ) (rounds : List (List ℕ)) : Type 0 where
  pub order_is : order ≡ flat rounds
  pub goes_round : AllByRecursion (λ ks. map (at next) ks ≡ rotated ks) rounds
  pub homes : AllByRecursion (AtHome home) rounds

-- The refusal of a volume that is zero or less.
pub record Hollow (volume : ℤ) (f : Fault) : Type 0 where
  pub cause_is : f.cause ≡ NoVolume
  pub place_is : f.place ≡ 0
  pub not_positive : volume ≤ℤ pos 0
