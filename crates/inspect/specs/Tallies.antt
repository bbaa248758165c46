-- How many drawings were judged.
use Rattle.std.specs.Prelude.{ℕ, ◌+◌, ◌-◌, ◌^◌, min, Ok, Err, Result}
use Rattle.drawing.specs.Causes.{Fault}
use Rattle.inspect.specs.declared.tally.Tally.{Tally}

-- one more, as far as the number goes
abbrev pub more : ℕ → ℕ
more n = min (n + 1) (2 ^ 64 - 1)

-- the tally with one verdict more
abbrev pub counted : Tally → Result ℕ Fault → Tally
counted t (Ok edges) = record { sound = more t.sound; refused = t.refused }
counted t (Err fault) = record { sound = t.sound; refused = more t.refused }
