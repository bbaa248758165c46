use Rattle.std.proofs.Common.{◌≡◌, map, length, take}
use Rattle.drawing.specs.Nets.{marks_of}
use Rattle.block.proofs.body.checking.edges_of.Given as goal

abbrev pub invariant-loop-k : goal.invariant-loop-k
invariant-loop-k l = record {
  count : length l.edges.items ≡ l.k;
  starts : map (λ e. e.start) l.edges.items ≡ take l.k l.wiring.starts;
  marks : map (λ e. e.mark) l.edges.items ≡ marks_of (take l.k l.corners);
  next : map (λ e. e.next) l.edges.items ≡ take l.k l.wiring.next;
  opposite : map (λ e. e.opposite) l.edges.items ≡ take l.k l.wiring.opposite;
}
