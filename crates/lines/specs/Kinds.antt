-- The names of the label kinds.
use Rattle.std.specs.Prelude.{ℕ, cond, List, Some, None, codes, Option}
use Rattle.std.specs.Str.{bytes_eq}
use Rattle.lines.specs.declared.kind.KindName.{KindName}
use Rattle.lines.specs.declared.kind.KindName.TheVariants.{Measure, Mark, Both}

abbrev pub name_of : KindName → List ℕ
name_of Measure = codes "measure"
name_of Mark = codes "mark"
name_of Both = codes "both"

-- the kind that a word names
abbrev pub kind_of : List ℕ → Option KindName
kind_of w =
    cond (bytes_eq w (codes "measure")) (Some Measure)
    (cond (bytes_eq w (codes "mark")) (Some Mark)
    (cond (bytes_eq w (codes "both")) (Some Both) None))
