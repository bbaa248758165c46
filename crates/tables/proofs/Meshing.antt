-- The net of tables that pass, check by check.
use Rattle.std.proofs.Common.{◌≡◌, ℕ, ◌-◌, ◌<◌, List, length, get_or, sym, refl, ◌∙◌, arith}
use Rattle.std.proofs.lemmas.List.{length-map, get_or-map}
use Rattle.solid.specs.Points.{Near}
use Rattle.drawing.specs.declared.fault.Cause.TheVariants.{TableCount, Coordinate, BrokenChain, PointNumber, LoosePoint, DoublePoint, UnmatchedEdge, PinchedPoint, UnreachedEdge}
use Rattle.drawing.specs.Lists.{at}
use Rattle.drawing.specs.Chains.{no_corner, Linked}
use Rattle.drawing.specs.Nets.{Net, no_point, starts_of, Matched, Whole, Reached}
use Rattle.drawing.specs.Causes.{Fault}
use Rattle.drawing.specs.Verdicts.{Tables, Counts, Named, Used, Repeated, Draws, Refused}
use Rattle.drawing.proofs.Linking.{next_within, next_once}
use Rattle.drawing.proofs.Passing.{passes_counts, passes_coordinates, passes_chains, passes_numbers, passes_used, passes_distinct, passes_matched, passes_whole, passes_reached}
use Rattle.drawing.proofs.Judgement.{Below, below_none, below_more, refused_below}
use Rattle.tables.specs.Stages.{Pointed, PointsRefused, unnamed, loose, double, Seamed, Joined, EdgesRefused, unmatched, pinched, unreached}
use Rattle.tables.specs.Wirings.{net_with}

module _ (t : Tables) (counts : Counts (length t.points) (length t.corners) (length t.faces)) where
  abbrev n : ℕ
  n = length t.corners

  starts_size : length (starts_of t.corners) ≡ n
  starts_size = length-map t.corners (λ c. c.point - 1)

  pub below_2 : Below t 2
  below_2 = below_more t TableCount (below_none t) (passes_counts t counts)

  module _ (near : (q : ℕ) → q < length t.points → Near (get_or t.points q no_point)) where
    pub below_3 : Below t 3
    below_3 = below_more t Coordinate below_2 (passes_coordinates t near)

    module _ (next : List ℕ) (linked : Linked t.corners t.faces next) where
      pub below_4 : Below t 4
      below_4 = below_more t BrokenChain below_3 (passes_chains t next linked)

      module _ (named : (k : ℕ) → k < n → Named t.corners (length t.points) k) where
        pub below_5 : Below t 5
        below_5 = below_more t PointNumber below_4 (passes_numbers t named)

        start_within : (e : ℕ) → e < length (starts_of t.corners) → at (starts_of t.corners) e < length t.points
        start_within e h =
            let lt : e < n = omega (arith, starts_size) in
            let k = named e lt in
            rw (get_or-map (λ c. c.point - 1) t.corners e no_corner 0 lt) (omega arith)

        pub seamed : Seamed (length t.points) (starts_of t.corners) next
        seamed = record {
          some = omega (arith, starts_size);
          points_to = counts.points_to;
          bounded = record {
            few = omega (arith, starts_size);
            next_size = linked.size ∙ sym starts_size;
            start_within = λ e h. omega (arith, start_within e h);
            next_within = λ e h. rw starts_size (next_within t.corners t.faces next linked e (omega (arith, starts_size)));
          };
          start_within = start_within;
          next_once = λ e f he hf. next_once t.corners t.faces next linked e f (omega (arith, starts_size)) (omega (arith, starts_size));
        }

        module _ (all_used : (q : ℕ) → q < length t.points → Used t.corners q) where
          pub below_6 : Below t 6
          below_6 = below_more t LoosePoint below_5 (passes_used t all_used)

          module _ (distinct : (q : ℕ) → q < length t.points → Repeated t.points q → ⊥) where
            pub below_7 : Below t 7
            below_7 = below_more t DoublePoint below_6 (passes_distinct t distinct)

            module _ (opposite : List ℕ) (joined : Joined (starts_of t.corners) next opposite) where
              abbrev net : Net
              net = net_with t next opposite

              matched : (e : ℕ) → e < length (starts_of t.corners) → Matched (starts_of t.corners) next e
              matched e h = (joined.each e h).matched

              pub draws : Draws t net
              draws = record {
                points_are = refl;
                starts_are = refl;
                marks_are = refl;
                linked = linked;
                opposite_size = joined.size ∙ starts_size;
                opposite_within = λ e h. (joined.each e h).within;
                opposite_runs = λ e h. (joined.each e h).runs;
              }

              pub below_8 : Below t 8
              below_8 = below_more t UnmatchedEdge below_7 (passes_matched t next linked (λ e h. matched e (omega (arith, starts_size))))

              module _ (whole : (q : ℕ) → q < length t.points → Whole net q) where
                pub below_9 : Below t 9
                below_9 = below_more t PinchedPoint below_8 (passes_whole t net draws matched whole)

                pub below_10 : ((e : ℕ) → e < length (starts_of t.corners) → Reached net e) → Below t 10
                below_10 reached = below_more t UnreachedEdge below_9 (passes_reached t net draws matched reached)

  -- which refusal the groups of checks give
  module _ (near : (q : ℕ) → q < length t.points → Near (get_or t.points q no_point)) (next : List ℕ) (linked : Linked t.corners t.faces next) (f : Fault) where
    pub points_refused : PointsRefused t.points t.corners f → Refused t f
    points_refused (unnamed r) = refused_below t PointNumber f (below_4 near next linked) r.cause_is r.lowest
    points_refused (loose named r) = refused_below t LoosePoint f (below_5 near next linked named) r.cause_is r.lowest
    points_refused (double named all_used r) = refused_below t DoublePoint f (below_6 near next linked named all_used) r.cause_is r.lowest

    pub edges_refused : Pointed t.points t.corners → EdgesRefused (length t.points) (starts_of t.corners) next f → Refused t f
    edges_refused p (unmatched r) =
        refused_below t UnmatchedEdge f (below_7 near next linked p.named p.all_used p.distinct) r.cause_is (next, linked, rw starts_size at r.lowest)
    edges_refused p (pinched opposite j r) =
        let net = net_with t next opposite in
        refused_below t PinchedPoint f (below_8 near next linked p.named p.all_used p.distinct opposite j) r.cause_is
        (record { net = net; draws = draws near next linked p.named p.all_used p.distinct opposite j; has = r.lowest })
    edges_refused p (unreached opposite j whole r) =
        let net = net_with t next opposite in
        refused_below t UnreachedEdge f (below_9 near next linked p.named p.all_used p.distinct opposite j whole) r.cause_is
        (record { net = net; draws = draws near next linked p.named p.all_used p.distinct opposite j; has = r.lowest })
