use Rattle.std.proofs.lemmas.Result.{err_from_is_err_and}
use Rattle.drawing.specs.Verdicts.{tables}
use Rattle.tables.proofs.Meshing.{seamed, points_refused, edges_refused}
use Rattle.tables.proofs.Wholly.{links, wired}
use Rattle.tables.proofs.wiring.wire.Goals as goal

pub returns-in_err-check_points : goal.returns-in_err-check_points
returns-in_err-check_points c =
    let p = err_from_is_err_and c.from_residual-in_err-check_points.result c.from_residual-in_err-check_points.ensures.1 in
    let counts = c.in_ok-counts_in_range.ensures in
    let next = rw c.as_slice.ensures.value at c.next_edges-next.ensures.each in
    let l = links (tables _ _ _) counts c.in_ok-points_in_range.ensures _ _ c.in_ok-chains.ensures _ c.next_edges-next.ensures.size next in
    rw (p.1, p.2) (points_refused _ counts c.in_ok-points_in_range.ensures _ l _ c.in_err-check_points.ensures)

pub invariant_of-seams : goal.invariant_of-seams
invariant_of-seams c =
    let counts = c.in_ok-counts_in_range.ensures in
    let next = rw c.as_slice.ensures.value at c.next_edges-next.ensures.each in
    let l = links (tables _ _ _) counts c.in_ok-points_in_range.ensures _ _ c.in_ok-chains.ensures _ c.next_edges-next.ensures.size next in
    rw (c.as_slice-2.ensures.value, c.start_points-starts.ensures, c.as_slice-3.ensures.value)
    (record { seamed = seamed _ counts c.in_ok-points_in_range.ensures _ l c.in_ok-check_points.ensures.named })

pub returns-in_err-opposite : goal.returns-in_err-opposite
returns-in_err-opposite c =
    let p = err_from_is_err_and c.from_residual-in_err-opposite.result c.from_residual-in_err-opposite.ensures.1 in
    let counts = c.in_ok-counts_in_range.ensures in
    let next = rw c.as_slice.ensures.value at c.next_edges-next.ensures.each in
    let l = links (tables _ _ _) counts c.in_ok-points_in_range.ensures _ _ c.in_ok-chains.ensures _ c.next_edges-next.ensures.size next in
    let e = rw (c.as_slice-2.ensures.value, c.start_points-starts.ensures, c.as_slice-3.ensures.value) at c.in_err-opposite.ensures in
    rw (p.1, p.2) (edges_refused _ counts c.in_ok-points_in_range.ensures _ l _ c.in_ok-check_points.ensures e)

pub returns : goal.returns
returns c =
    let counts = c.in_ok-counts_in_range.ensures in
    let next = rw c.as_slice.ensures.value at c.next_edges-next.ensures.each in
    let complete = c.in_ok-chains.ensures in
    let closed = rw (c.as_slice-2.ensures.value, c.start_points-starts.ensures, c.as_slice-3.ensures.value) at c.in_ok-opposite.ensures in
    wired (tables _ _ _) counts c.in_ok-points_in_range.ensures _ _ complete _ c.next_edges-next.ensures.size next c.in_ok-check_points.ensures _ closed
    _ _ c.start_points-starts.ensures c.fill.ensures c.fill-2.ensures c.fill-3.ensures c.fill-4.ensures c.fill-5.ensures
