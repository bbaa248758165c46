use Rattle.tables.proofs.Turning.{full_starts}
use Rattle.tables.proofs.turns.full_points.Goals as goal

pub loop-e-init : goal.loop-e-init
loop-e-init c = full_starts _ _
