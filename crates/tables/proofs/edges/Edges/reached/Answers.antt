use Rattle.std.proofs.Common.{◌<◌, [], ◌∷◌, length, ap, ◌∙◌, arith, length-append}
use Rattle.tables.proofs.Searching.{search_starts, search_goes_on, search_within, search_ends}
use Rattle.tables.proofs.edges.Edges.reached.Goals as goal
use Rattle.tables.proofs.edges.Edges.reached.Goals.{In-Some}

pub loop-e-init : goal.loop-e-init
loop-e-init c = record {
  search = search_starts _ _ _ _ _ c.new-list.ensures.empty c.visit.ensures.marks c.visit.ensures.items;
  left = omega (arith, c.visit.ensures.left, ap length c.new-list.ensures.empty);
  slots = c.visit.ensures.slots ∙ c.new-list.ensures.slots;
}

edge : (c : In-Some) → c.in-Some.e < length c.args.self.now.starts.now
edge c =
    let s = c.args.self.now in
    search_within _ _ _ s.mesh.next_within s.mesh.opposite_within s.some _ _ _ _ c.in-Some.ensures.items c.loop-e.invariant.search

pub offset_bounds-self-e : goal.offset_bounds-self-e
offset_bounds-self-e c = omega (arith, edge (goal.at.offset_bounds-self-e c).In-Some, c.args.self.now.few)

pub bounds-self-e : goal.bounds-self-e
bounds-self-e c = omega (arith, edge (goal.at.bounds-self-e c).In-Some, c.args.self.now.mesh.next_size)

pub offset_bounds-self-e-in-Some : goal.offset_bounds-self-e-in-Some
offset_bounds-self-e-in-Some c = omega (arith, edge (goal.at.offset_bounds-self-e-in-Some c).In-Some, c.args.self.now.few)

pub bounds-self-e-in-Some : goal.bounds-self-e-in-Some
bounds-self-e-in-Some c = omega (arith, edge (goal.at.bounds-self-e-in-Some c).In-Some, c.args.self.now.mesh.opposite_size)

pub loop-e-preserved : goal.loop-e-preserved
loop-e-preserved c =
    let mesh = c.args.self.now.mesh in
    let e = edge (goal.at.loop-e-preserved c).In-Some in record {
      search = search_goes_on _ _ _ _ _ _ _ _ _ _ c.loop-e.invariant.search c.in-Some.ensures.items
          (omega (arith, mesh.next_within _ e, c.args.self.now.few)) c.visit-in-Some.ensures.marks c.visit-in-Some.ensures.items
          (omega (arith, mesh.opposite_within _ e, c.args.self.now.few)) c.visit-in-Some-2.ensures.marks c.visit-in-Some-2.ensures.items;
      left = omega (arith, c.visit-in-Some-2.ensures.left, c.visit-in-Some.ensures.left, c.loop-e.invariant.left, ap length c.in-Some.ensures.items, length-append c.pop.new.self.items (c.in-Some.e ∷ []));
      slots = c.visit-in-Some-2.ensures.slots ∙ c.visit-in-Some.ensures.slots ∙ c.in-Some.ensures.slots ∙ c.loop-e.invariant.slots;
    }

pub returns : goal.returns
returns c = search_ends _ _ _ _ c.in_default.ensures.items.0 c.loop-e.invariant.search
