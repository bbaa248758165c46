-- What the tables layer hands to the shape layer of each chain: its first corner. No refusal speaks of it.
use Rattle.std.specs.Prelude.{◌≡◌, ℕ, List, [], ◌∷◌}
use Rattle.std.specs.List.{AllByRecursion}
use Rattle.drawing.specs.Lists.{at}

-- What stands at each corner of a chain is the chain's first corner.
abbrev pub AtHome : List ℕ → List ℕ → Type 0
AtHome home [] = Unit {0}
AtHome home (k ∷ ks) = AllByRecursion (λ j. at home j ≡ k) (k ∷ ks)
