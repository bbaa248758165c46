use Rattle.std.proofs.Common.{◌≡◌, ◌+◌, ◌<◌, length, get_or, refl, ap, ◌∙◌, arith}
use Rattle.std.proofs.lemmas.List.{get_or_default}
use Rattle.drawing.specs.Lists.{at}
use Rattle.stored.specs.Records.{with_part}
use Rattle.stored.proofs.Writing.{size_kept, front_kept, written_more, unwritten_more}
use Rattle.stored.proofs.table.Table.set_parts.Goals as goal

pub loop-e-preserved : goal.loop-e-preserved
loop-e-preserved g c =
    let (size, front, written, unwritten, name) = c.loop-e.invariant in
    let b = c.args.self.now.edges.now in
    let now = c.loop-e.self.edges.now in
    let start = c.args.start in
    let e = c.loop-e.e in
    let old = c.index-self-start.result in
    let x = with_part (get_or now (start + e) old) (at c.args.parts.now e) in
    let lt : start + e < length now = omega arith in (
      size_kept start e b now _ x refl size,
      front_kept start e b now _ x refl front,
      λ d. written_more start e b now _ x refl (λ k r. r ≡ with_part (get_or b (start + k) d) (at c.args.parts.now k)) d lt (written d)
          (ap (λ r. with_part r (at c.args.parts.now e)) (get_or_default now (start + e) old d lt ∙ unwritten d e (omega arith))),
      λ d. unwritten_more start e b now _ x refl d (unwritten d),
      name,
    )

pub returns : goal.returns
returns g c =
    let (size, front, written, unwritten, name) = c.loop-e.invariant in
    record { parted = record { size = size; kept = front; written = λ e d lt. written d e (omega arith) }; place = name }
