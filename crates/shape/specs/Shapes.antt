-- What the shape layer establishes, or which of its checks fails first.
use Rattle.std.specs.Prelude.{◌≡◌, ℕ, ◌<◌, List, pos, ◌<ℤ◌, ◌≢◌}
use Rattle.drawing.specs.Causes.{Fault}
use Rattle.drawing.specs.declared.fault.Cause.TheVariants.{BentFace, LevelFaces}
use Rattle.drawing.specs.Lowest.{RefusedAt}
use Rattle.drawing.specs.Nets.{Net, edges, bend, fold, content}
use Rattle.shape.specs.Wedges.{Hollow}

-- The faces are flat, no two are level, and their chains enclose a positive volume.
pub record Shaped (m : Net) (rounds : List (List ℕ)) : Type 0 where
  pub flat : (e : ℕ) → e < edges m → bend m e ≡ pos 0
  pub angled : (e : ℕ) → e < edges m → fold m e ≢ pos 0
  pub positive : pos 0 <ℤ content m.points m.starts rounds

pub data ShapeRefused (m : Net) (rounds : List (List ℕ)) (f : Fault) : Type 0 where
  bent : RefusedAt BentFace (edges m) (λ e. bend m e ≢ pos 0) f → ShapeRefused m rounds f
  level : ((e : ℕ) → e < edges m → bend m e ≡ pos 0) → RefusedAt LevelFaces (edges m) (λ e. fold m e ≡ pos 0) f → ShapeRefused m rounds f
  hollow : ((e : ℕ) → e < edges m → bend m e ≡ pos 0) → ((e : ℕ) → e < edges m → fold m e ≢ pos 0) → Hollow (content m.points m.starts rounds) f → ShapeRefused m rounds f
