use Rattle.tables.proofs.Meeting.{apart_more, steady_more}
use Rattle.tables.proofs.walk.Walk.meet.Goals as goal

pub invariant_of-self : goal.invariant_of-self
invariant_of-self c =
    let s = c.args.self.now in
    rw c.push.ensures.items (record {
      apart = apart_more _ _ _ c.args.home s.steady c.requires c.in-None.is s.apart;
      steady = steady_more _ _ _ c.args.home s.steady c.requires c.in-None.is;
    })
