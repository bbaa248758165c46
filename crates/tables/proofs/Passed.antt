-- Tables that pass this layer: the verdict of its checks.
use Rattle.std.proofs.Common.{◌≡◌, ℕ, ◌<◌, length, arith}
use Rattle.drawing.specs.Nets.{Matched, edges, starts_of}
use Rattle.drawing.specs.Verdicts.{Tables}
use Rattle.drawing.proofs.Linking.{edge_count}
use Rattle.drawing.proofs.Judgement.{Below}
use Rattle.tables.specs.declared.wiring.Wiring.{Wiring}
use Rattle.tables.specs.Stages.{Joined}
use Rattle.tables.specs.Wirings.{net_of, used, Wired}
use Rattle.tables.proofs.Meshing.{below_10}

module _ (t : Tables) (w : Wiring) (h : Wired t w) where
  pub edges_are : edges (net_of t w) ≡ length t.corners
  edges_are = edge_count t (net_of t w) h.draws

  pub all_matched : (e : ℕ) → e < edges (net_of t w) → Matched (starts_of t.corners) (used t w.next) e
  all_matched e lt = h.matched e (omega (arith, edges_are))

  joined : Joined (starts_of t.corners) (used t w.next) (used t w.opposite)
  joined = record {
    size = h.mesh.opposite_size;
    each = λ e lt. record { matched = all_matched e lt; within = h.draws.opposite_within e lt; runs = h.draws.opposite_runs e lt };
  }

  -- the checks of this layer pass
  pub wired_passes : Below t 10
  wired_passes =
      below_10 t h.counts h.near (used t w.next) h.draws.linked h.named h.all_used h.distinct
      (used t w.opposite) joined h.whole (λ e lt. h.reached e (omega (arith, edges_are)))
