-- What a session holds between two lines.
use Rattle.std.specs.Prelude.{ℕ, List}
use Rattle.drawing.specs.Verdicts as verdict
use Rattle.kept.specs.declared.recent.Recent.{Recent}
use Rattle.inspect.specs.declared.tally.Tally.{Tally}

-- The tables and the images in hand, the last two sound drawings, and how many drawings were judged.
pub record State : Type 0 where
  pub tables : verdict.Tables
  pub images : List ℕ
  pub recent : Recent
  pub tally : Tally
