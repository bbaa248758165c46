use Rattle.tables.proofs.Naming.{names_none}
use Rattle.tables.proofs.points.named_points.Goals as goal

pub loop-corner-init : goal.loop-corner-init
loop-corner-init c = names_none _
