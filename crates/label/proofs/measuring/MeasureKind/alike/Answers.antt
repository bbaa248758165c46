use Rattle.std.proofs.Common.{◌∙◌}
use Rattle.label.specs.Equals.{compared}
use Rattle.label.proofs.measuring.MeasureKind.alike.Goals as goal

pub returns : goal.returns
returns c = c.eq.ensures ∙ compared c.args.x.now c.args.y.now
