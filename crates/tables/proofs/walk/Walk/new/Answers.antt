use Rattle.tables.proofs.Meeting.{steady_none}
use Rattle.tables.proofs.walk.Walk.new.Goals as goal

pub invariant_of-result : goal.invariant_of-result
invariant_of-result c = rw c.new.ensures (record { apart = tt; steady = steady_none })
