-- From the two layers to the verdict and the checked block.
use Rattle.std.proofs.Common.{◌≡◌, ℕ, ◌-◌, ◌<◌, ◌≤◌, List, length, Some, None, Option, sym, refl, ap, ◌∙◌, subst, inl, inr, arith}
use Rattle.std.proofs.lemmas.List.{get_or-map, length-map}
use Rattle.std.proofs.lemmas.Bool.{cases_order}
use Rattle.drawing.specs.Causes.{Fault}
use Rattle.drawing.specs.declared.fault.Cause.TheVariants.{BentFace, LevelFaces, NoVolume}
use Rattle.drawing.specs.Chains.{no_corner}
use Rattle.drawing.specs.Nets.{Net, starts_of, marks_of, edges, start, point_at}
use Rattle.drawing.specs.Verdicts.{Tables, Draws, Sound, Refused}
use Rattle.drawing.proofs.Linking.{next_onto}
use Rattle.drawing.proofs.Passing.{passes_flat, passes_level, passes_volume}
use Rattle.drawing.proofs.Judgement.{below_more, sound_below, refused_below, refused_once, sound_not_refused}
use Rattle.tables.specs.declared.wiring.Wiring.{Wiring}
use Rattle.tables.specs.Wirings.{net_of, used, Wired}
use Rattle.tables.proofs.Passed.{edges_are, all_matched, wired_passes}
use Rattle.shape.specs.Edges.{shown, Placed, EdgeList}
use Rattle.shape.specs.Wedges.{Listed}
use Rattle.shape.specs.Shapes.{Shaped, ShapeRefused, bent, level, hollow}
use Rattle.block.specs.Checked.{Checked, Leaves, Previous, net_from}
use Rattle.block.specs.Views.{Verdict}

module _ (t : Tables) (w : Wiring) (h : Wired t w) where
  abbrev m : Net
  m = net_of t w

  pub placed : Placed t.points (starts_of t.corners)
  placed = record { near = h.near; start_within = h.mesh.start_within }

  pub nexts : EdgeList (length (starts_of t.corners)) (used t w.next)
  nexts = record { size = h.mesh.next_size; within = h.mesh.next_within }

  pub opposites : EdgeList (length (starts_of t.corners)) (used t w.opposite)
  opposites = record { size = h.mesh.opposite_size; within = h.mesh.opposite_within }

  pub orders : EdgeList (length (starts_of t.corners)) (used t w.order)
  orders = rw (edges_are t w h) (record { size = h.order_size; within = h.order_within })

  pub homes : EdgeList (length (starts_of t.corners)) (used t w.home)
  homes = rw (edges_are t w h) (record { size = h.home_size; within = h.home_within })

  pub few : length (starts_of t.corners) ≤ 480
  few = omega (arith, edges_are t w h, h.counts.corners_to)

  pub listed : Listed (used t w.next) (used t w.order) (used t w.home) h.draws.linked.rounds
  listed = record { order_is = h.order_is; goes_round = h.draws.linked.goes_round; homes = h.homes }

  -- the same net, without its marks
  abbrev plain : Net
  plain = shown t.points (starts_of t.corners) (used t w.next) (used t w.opposite)

  pub shape_refused : (f : Fault) → ShapeRefused plain h.draws.linked.rounds f → Refused t f
  shape_refused f (bent r) =
      refused_below t BentFace f (wired_passes t w h) r.cause_is (record { net = m; draws = h.draws; has = r.lowest })
  shape_refused f (level flat r) =
      refused_below t LevelFaces f (below_more t BentFace (wired_passes t w h) (passes_flat t m h.draws (all_matched t w h) flat))
      r.cause_is (record { net = m; draws = h.draws; has = r.lowest })
  shape_refused f (hollow flat angled r) =
      let b11 = below_more t BentFace (wired_passes t w h) (passes_flat t m h.draws (all_matched t w h) flat) in
      refused_below t NoVolume f (below_more t LevelFaces b11 (passes_level t m h.draws (all_matched t w h) angled))
      r.cause_is (r.place_is, record { net = m; draws = h.draws; has = (h.draws.linked, r.not_positive) })

  module _ (s : Shaped plain h.draws.linked.rounds) where
    pub sound : Sound t
    sound =
        let b11 = below_more t BentFace (wired_passes t w h) (passes_flat t m h.draws (all_matched t w h) s.flat) in
        let b12 = below_more t LevelFaces b11 (passes_level t m h.draws (all_matched t w h) s.angled) in
        sound_below t (below_more t NoVolume b12 (passes_volume t m h.draws (all_matched t w h) s.positive))

    once : (p q : ℕ) → p < length t.points → q < length t.points → point_at m p ≡ point_at m q → p ≡ q
    once p q lp lq e =
        elim (cases_order p q) [
          | inl same ↦ same
          | inr d ↦ elim d [
            | inl lt ↦ absurd (h.distinct q lq (record { earlier = p; before = lt; same = e }))
            | inr gt ↦ absurd (h.distinct p lp (record { earlier = q; before = gt; same = sym e }))
          ]
        ]

    leaves : (q : ℕ) → q < length t.points → Leaves m q
    leaves q lq =
        let u = h.all_used q lq in
        record {
          edge = u.corner;
          within = omega (arith, edges_are t w h, u.within);
          from = get_or-map (λ c. c.point - 1) t.corners u.corner no_corner 0 u.within ∙ omega (arith, u.names);
        }

    before : (f : ℕ) → f < edges m → Previous m f
    before f lt =
        let b = next_onto t.corners t.faces (used t w.next) h.draws.linked f (omega (arith, edges_are t w h)) in
        record { edge = b.0; within = omega (arith, edges_are t w h, b.1); leads = b.2 }

    of_net : Checked m
    of_net = record {
      points_from = h.counts.points_from;
      points_to = h.counts.points_to;
      edges_from = omega (arith, edges_are t w h, h.counts.corners_from);
      edges_to = few;
      marks_size = length-map t.corners _ ∙ sym (edges_are t w h);
      near = h.near;
      points_once = once;
      mesh = h.mesh;
      previous = before;
      opposite_apart = λ e lt same. (all_matched t w h e lt).apart (ap (start m) (sym same) ∙ h.mesh.opposite_start e lt);
      ends_apart = λ e lt. (all_matched t w h e lt).apart;
      ends_once = λ e f le lf from to.
          (all_matched t w h f lf).there.only e le (record { from = from; to = to })
          ∙ sym ((all_matched t w h f lf).there.only f lf (record { from = refl; to = refl }));
      leaving = leaves;
      whole = h.whole;
      reached = λ e lt. h.reached e (omega (arith, edges_are t w h));
      flat = s.flat;
      angled = s.angled;
    }

    pub checked : Checked (net_from t.points t.corners w)
    checked = subst (λ (starts : List ℕ). Checked (record { points = t.points; starts = starts; marks = marks_of t.corners; next = used t w.next; opposite = used t w.opposite })) (sym h.starts_are) of_net

    -- and the block that holds it is drawn by the tables
    pub drawn : Draws t (net_from t.points t.corners w)
    drawn = subst (λ (starts : List ℕ). Draws t (record { points = t.points; starts = starts; marks = marks_of t.corners; next = used t w.next; opposite = used t w.opposite })) (sym h.starts_are) h.draws

-- exactly one verdict
module _ (t : Tables) where
  pub only_refusal : (f : Fault) → Refused t f → (v : Option Fault) → Verdict t v → v ≡ Some f
  only_refusal f r None s = absurd (sound_not_refused t f s r)
  only_refusal f r (Some g) q = ap Some (refused_once t g f q r)

  pub only_sound : Sound t → (v : Option Fault) → Verdict t v → v ≡ None
  only_sound s None q = refl
  only_sound s (Some g) q = absurd (sound_not_refused t g s q)
