-- Which labels are the same.
use Rattle.std.specs.Prelude.{Bool, false, ◌&&◌, ℤ, pos, negsuc, ◌==◌}
use Rattle.label.specs.declared.measures.Measures.{Measures}

-- two signed numbers are equal
abbrev pub equal : ℤ → ℤ → Bool
equal (pos m) (pos n) = m == n
equal (pos m) (negsuc n) = false
equal (negsuc m) (pos n) = false
equal (negsuc m) (negsuc n) = m == n

-- all six numbers are equal
abbrev pub same_measures : Measures → Measures → Bool
same_measures x y =
    equal x.ee y.ee && (equal x.eb y.eb && (equal x.eb2 y.eb2
    && (equal x.ec y.ec && (equal x.bc y.bc && equal x.volume y.volume))))
