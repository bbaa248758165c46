use Rattle.std.proofs.Common.{◌∙◌, arith}
use Rattle.stored.specs.Records.{Holds}
use Rattle.stored.proofs.Writing.{size_kept, front_kept, written_more}
use Rattle.stored.proofs.table.Table.store.Goals as goal

pub put-requires : goal.put-requires
put-requires g c = omega (arith, c.edge_count-e-end.ensures)

pub loop-e-preserved : goal.loop-e-preserved
loop-e-preserved g c =
    let (size, front, holds, name) = c.loop-e.invariant in
    let start = c.args.start in
    let e = c.loop-e.e in
    let b = c.args.self.now.edges.now in
    let now = c.loop-e.self.edges.now in
    let x = c.record_of.result in
    let is = c.put.ensures.put in (
      size_kept start e b now _ x is size,
      front_kept start e b now _ x is front,
      λ d. written_more start e b now _ x is (Holds g.K.Kind.label c.args.block.now) d (omega (arith, c.edge_count-e-end.ensures)) (holds d) c.record_of.ensures.holds,
      c.put.ensures.place ∙ name,
    )

pub returns : goal.returns
returns g c =
    let (size, front, holds, name) = c.loop-e.invariant in
    record { stored = record { size = size; kept = front; holds = λ e d lt. holds d e (omega (arith, c.edge_count-e-end.ensures)) }; place = name }
