-- A net of which only the edges matter.
use Rattle.std.specs.Prelude.{ℕ, List, []}
use Rattle.drawing.specs.Nets.{Net}

abbrev pub bare : (starts next opposite : List ℕ) → Net
bare starts next opposite = record { points = []; starts = starts; marks = []; next = next; opposite = opposite }
