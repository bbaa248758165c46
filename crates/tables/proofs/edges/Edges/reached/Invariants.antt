use Rattle.std.proofs.Common.{◌≡◌, ◌+◌, ◌≤◌, length}
use Rattle.tables.specs.Marked.{unmarked}
use Rattle.tables.proofs.Searching.{Search}
use Rattle.tables.proofs.edges.Edges.reached.Given as goal

abbrev pub invariant-loop-e : goal.invariant-loop-e
invariant-loop-e l = record {
  search : Search l.self.next.now l.self.opposite.now l.marks l.list.items;
  left : length l.list.items + unmarked l.marks ≤ 480;
  slots : l.list.slots ≡ 480;
}

abbrev pub decreases-loop-e : goal.decreases-loop-e
decreases-loop-e l = length l.list.items + unmarked l.marks
