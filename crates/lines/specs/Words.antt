-- The words of a line.
use Rattle.std.specs.Prelude.{ℕ, Bool, true, false, ◌||◌, List, [], ◌∷◌, filter, ◌==◌}
use Rattle.std.specs.List.{slice_split}

-- a space, a tab, or what ends a line: a line feed or a carriage return
abbrev pub blank : ℕ → Bool
blank b = b == 32 || (b == 9 || (b == 10 || b == 13))

-- a piece that is not empty
abbrev pub filled : List ℕ → Bool
filled [] = false
filled (b ∷ bs) = true

-- the words of a line, which is cut at its blanks
abbrev pub words : List ℕ → List (List ℕ)
words text = filter filled (slice_split blank text)
