-- The numbers that words write.
use Rattle.std.specs.Prelude.{ℕ, suc, cond, List, [], ◌∷◌, ℤ, pos, neg_ℤ, Some, None, Option, ◌==◌, nat_lt}
use Rattle.std.specs.Option.{option_map}
use Rattle.std.specs.Str.Parse.{digits_value}
use Rattle.std.specs.Str.{all_ascii_digits}

-- the number that one decimal digit or more write
abbrev pub decimal : List ℕ → Option ℕ
decimal [] = None
decimal (d ∷ ds) = cond (all_ascii_digits (d ∷ ds)) (Some (digits_value 10 (d ∷ ds))) None

-- a number that is less than the limit
abbrev pub below : ℕ → Option ℕ → Option ℕ
below limit None = None
below limit (Some n) = cond (nat_lt n limit) (Some n) None

-- the number that a word writes, a plus in front or not
abbrev pub unsigned : ℕ → List ℕ → Option ℕ
unsigned limit [] = None
unsigned limit (c ∷ cs) = below limit (decimal (cond (c == 43) cs (c ∷ cs)))

-- the same where a minus may stand in front too
abbrev pub signed : ℕ → List ℕ → Option ℤ
signed limit [] = None
signed limit (c ∷ cs) = cond (c == 45) (option_map (λ n. neg_ℤ (pos n)) (below (suc limit) (decimal cs))) (option_map pos (unsigned limit (c ∷ cs)))
