-- All that the tables layer establishes, put together.
use Rattle.std.proofs.Common.{◌≡◌, ℕ, ◌<◌, List, length, get_or, take, sym, ap, ◌∙◌, subst, arith}
use Rattle.std.specs.List.{AllByRecursion}
use Rattle.std.proofs.lemmas.List.{length-map}
use Rattle.solid.specs.Points.{Near}
use Rattle.drawing.specs.Lists.{at, ◌∈◌, flat}
use Rattle.drawing.specs.Chains.{Linked}
use Rattle.drawing.specs.Homes.{AtHome}
use Rattle.drawing.specs.Nets.{no_point, starts_of}
use Rattle.drawing.specs.Verdicts.{Tables, Counts}
use Rattle.drawing.proofs.Members.{in_at}
use Rattle.drawing.proofs.Following.{each_once, each_within}
use Rattle.tables.specs.declared.wiring.Wiring.{Wiring}
use Rattle.tables.specs.Walks.{Complete, next_of}
use Rattle.tables.specs.Stages.{Pointed, Closed}
use Rattle.tables.specs.Wirings.{net_of, used, Wired}
use Rattle.tables.proofs.Completing.{linked, home_in}
use Rattle.tables.proofs.Joining.{mesh_from}
use Rattle.tables.proofs.Meshing.{seamed, draws}

module _ (t : Tables) (counts : Counts (length t.points) (length t.corners) (length t.faces))
    (near : (q : ℕ) → q < length t.points → Near (get_or t.points q no_point))
    (order home : List ℕ) (complete : Complete t.corners t.faces order home)
    (next : List ℕ) (next_size : length next ≡ length t.corners) (next_is : (k : ℕ) → k < length t.corners → at next k ≡ next_of t.corners home k) where
  pub links : Linked t.corners t.faces next
  links = linked t.corners t.faces order home next complete next_size next_is

  in_rounds : (k : ℕ) → k ∈ flat complete.rounds → k < length t.corners
  in_rounds k m = each_within t.corners t.faces complete.rounds k complete.drawn.chains m

  module _ (p : Pointed t.points t.corners) (opposite : List ℕ) (closed : Closed (length t.points) (starts_of t.corners) next opposite) where
    count : length (starts_of t.corners) ≡ length t.corners
    count = length-map t.corners _

    -- a list with an item for each corner is the used part of the places where it was put
    filled : (list places : List ℕ) → length list ≡ length t.corners → take (length list) places ≡ list → used t places ≡ list
    filled list places size placed = rw size at placed

    pub wired : (w : Wiring) (starts : List ℕ) → starts ≡ starts_of t.corners → take (length starts) w.starts ≡ starts
        → take (length next) w.next ≡ next → take (length opposite) w.opposite ≡ opposite
        → take (length order) w.order ≡ order → take (length home) w.home ≡ home → Wired t w
    wired w starts starts_are starts_placed next_placed opposite_placed order_placed home_placed =
        let next_are = filled next w.next next_size next_placed in
        let opposite_are = filled opposite w.opposite (closed.joined.size ∙ count) opposite_placed in
        let order_are = filled order w.order complete.order_size order_placed in
        let home_are = filled home w.home complete.home_size home_placed in
        let chained : Linked t.corners t.faces (used t w.next) = rw next_are links in
        let closes : Closed (length t.points) (starts_of t.corners) (used t w.next) (used t w.opposite) = rw (next_are, opposite_are) closed in
        let d = draws t counts near (used t w.next) chained p.named p.all_used p.distinct (used t w.opposite) closes.joined in
        -- the chains by another name
        let same = each_once t.corners t.faces complete.rounds d.linked.rounds complete.drawn.chains d.linked.drawn.chains in
        record {
          counts = counts;
          near = near;
          named = p.named;
          all_used = p.all_used;
          distinct = p.distinct;
          starts_are = filled starts w.starts (ap length starts_are ∙ count) starts_placed ∙ starts_are;
          draws = d;
          mesh = mesh_from (length t.points) (net_of t w) (seamed t counts near (used t w.next) chained p.named) closes.joined;
          matched = λ e h. (closes.joined.each e (omega (arith, count))).matched;
          whole = closes.whole;
          reached = λ e h. closes.reached e (omega (arith, count));
          order_is = order_are ∙ complete.order_is ∙ ap flat (sym same);
          order_size = rw order_are complete.order_size;
          order_within = λ k h. rw order_are (in_rounds (at order k) (subst (λ (xs : List ℕ). at order k ∈ xs) complete.order_is (in_at order k (omega (arith, complete.order_size)))));
          home_size = rw home_are complete.home_size;
          home_within = λ k h. rw home_are (in_rounds _ (home_in home complete.rounds complete.homes k (complete.covers k h)));
          homes = rw home_are (subst (λ (r : List (List ℕ)). AllByRecursion (AtHome home) r) (sym same) complete.homes);
        }
