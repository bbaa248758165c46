-- The six numbers of a measure, as they are written.
use Rattle.std.specs.Prelude.{ℕ, List, ◌++◌, ℤ, codes}
use Rattle.std.specs.Fmt.{signed_decimal}
use Rattle.label.specs.declared.measures.Measures.{Measures}

-- a number, and more after a space
abbrev pub beside : ℤ → List ℕ → List ℕ
beside n more = signed_decimal n ++ (codes " " ++ more)

-- the six numbers of a measure
abbrev pub six_written : Measures → List ℕ
six_written x = beside x.ee (beside x.eb (beside x.eb2 (beside x.ec (beside x.bc (signed_decimal x.volume)))))
