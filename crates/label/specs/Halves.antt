-- Which half of a pair answers yes.
use Rattle.std.specs.Prelude.{Bool, true, false, ◌||◌, T, ◌⊎◌}
use Rattle.std.proofs.Common.{inl, inr}

pub one_of : (a b : Bool) → T (a || b) → T a ⊎ T b
one_of true b t = inl tt
one_of false b t = inr t
