use Rattle.std.proofs.Common.{arith}
use Rattle.tables.proofs.Judging.{judges_marked}
use Rattle.tables.proofs.edges.Edges.all_reached.Goals as goal

pub returns : goal.returns
returns c = judges_marked _ 480 _ _ _ c.all_marked.result (omega (arith, c.args.self.now.mesh.next_size, c.args.self.now.few)) c.reached.ensures c.all_marked.ensures
