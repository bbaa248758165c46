-- What an edge measures, and its mark.
use Rattle.std.specs.Prelude.{◌≡◌, ℕ, ◌-◌, ◌≤◌, pos, Some, None, Option, unsigned_abs}
use Rattle.solid.specs.Points.{dot}
use Rattle.solid.specs.Limits.{greatest_dot, greatest_volume}
use Rattle.drawing.specs.Lists.{at}
use Rattle.drawing.specs.Nets.{Net, edges, vector, next, opposite, fold}
use Rattle.label.specs.declared.measures.Measures.{Measures}

-- With e the vector of the edge, b that of its next edge, b2 that of the edge after that, and c that of the next edge of its
-- opposite: e·e, e·b, e·b2, e·c, b·c and vol(e, b, c).
abbrev pub measure : Net → ℕ → Measures
measure m e = record {
  ee = dot (vector m e) (vector m e);
  eb = dot (vector m e) (vector m (next m e));
  eb2 = dot (vector m e) (vector m (next m (next m e)));
  ec = dot (vector m e) (vector m (next m (opposite m e)));
  bc = dot (vector m (next m e)) (vector m (next m (opposite m e)));
  volume = fold m e;
}

-- where nothing was measured
abbrev pub unmeasured : Measures
unmeasured = record { ee = pos 0; eb = pos 0; eb2 = pos 0; ec = pos 0; bc = pos 0; volume = pos 0 }

-- the byte of the corner record
abbrev pub mark : Net → ℕ → ℕ
mark m e = at m.marks e

-- Each number lies in its range.
pub record Ranged (x : Measures) : Type 0 where
  pub ee_range : unsigned_abs x.ee ≤ greatest_dot
  pub eb_range : unsigned_abs x.eb ≤ greatest_dot
  pub eb2_range : unsigned_abs x.eb2 ≤ greatest_dot
  pub ec_range : unsigned_abs x.ec ≤ greatest_dot
  pub bc_range : unsigned_abs x.bc ≤ greatest_dot
  pub volume_range : unsigned_abs x.volume ≤ greatest_volume

-- The block has an edge of this number, from 1, and it measures x.
pub record Found (m : Net) (number : ℕ) (x : Measures) : Type 0 where
  pub from_one : 1 ≤ number
  pub to_last : number ≤ edges m
  pub is : x ≡ measure m (number - 1)
  pub ranged : Ranged x

-- What is answered of the edge of this number: what it measures, exactly where the block has it.
abbrev pub Asked : Net → ℕ → Option Measures → Type 0
Asked m number (Some x) = Found m number x
Asked m number None = 1 ≤ number → number ≤ edges m → ⊥
