-- How far from zero the products of vectors between points of a block can lie.
use Rattle.std.specs.Prelude.{ℕ}

-- of a dot product: 3 * 16000 * 16000
abbrev pub greatest_dot : ℕ
greatest_dot = 768000000

-- of a signed volume: 6 * 16000 * 16000 * 16000
abbrev pub greatest_volume : ℕ
greatest_volume = 24576000000000
