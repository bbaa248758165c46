use Rattle.std.proofs.Common.{arith}
use Rattle.std.proofs.lemmas.Grind.{common_steps}
use Rattle.std.proofs.Math.Seq.{take-set-lt}
use Rattle.entries.proofs.register.Register.join.Goals as goal

pub returns : goal.returns
returns c = grind (arith, common_steps, take-set-lt)
