-- Frames: three vectors of a block, and three of another. A vector of the one and a vector of the other are kept if their products
-- with the frames are equal. If the frames are of one shape, then kept vectors have equal products and equal volumes.
use Rattle.std.proofs.Common.{◌≡◌, ◌≢◌, ℤ, pos, ◌+ℤ◌, ◌-ℤ◌, ◌*ℤ◌, neg_ℤ, sym, ap, ◌∙◌}
use Rattle.algebra.proofs.Signs.{cancel}
use Rattle.solid.specs.declared.Point.{Point}
use Rattle.solid.specs.declared.Vector.{Vector}
use Rattle.solid.specs.Points.{between, dot, volume}
use Rattle.pairing.specs.Congruences.{distance, signed}
use Rattle.pairing.proofs.Identities.{det, area, dot_flip, gram, split, cramer, dot_back, dot_via, dot_from}

pub data Axis : Type 0 where
  first : Axis
  second : Axis
  third : Axis

abbrev pub frame : Vector → Vector → Vector → Axis → Vector
frame u v w first = u
frame u v w second = v
frame u v w third = w

abbrev pub volume_of : (Axis → Vector) → ℤ
volume_of F = volume (F first) (F second) (F third)

pub record Kept (F F' : Axis → Vector) (u u' : Vector) : Type 0 where
  pub on : (i : Axis) → dot (F i) u ≡ dot (F' i) u'

pub record OneShape (F F' : Axis → Vector) : Type 0 where
  pub solid : volume_of F ≢ pos 0
  pub volumes : volume_of F ≡ volume_of F'
  pub products : (i : Axis) → Kept F F' (F i) (F' i)

module _ (F F' : Axis → Vector) where
  pub kept_as : {u v u' v' : Vector} → u ≡ v → u' ≡ v' → Kept F F' v v' → Kept F F' u u'
  kept_as e e' k = rw (e, e') k

  -- the way back
  pub kept_back : (p q p' q' : Point) → Kept F F' (between p q) (between p' q') → Kept F F' (between q p) (between q' p')
  kept_back p q p' q' k = record { on = λ i. dot_back (F i) p q ∙ ap neg_ℤ (k.on i) ∙ sym (dot_back (F' i) p' q') }

  module _ (p q r p' q' r' : Point) where
    -- one way after another
    pub kept_via : Kept F F' (between p q) (between p' q') → Kept F F' (between q r) (between q' r') → Kept F F' (between p r) (between p' r')
    kept_via k l = record { on = λ i. dot_via (F i) p q r ∙ (λ t. k.on i t +ℤ l.on i t) ∙ sym (dot_via (F' i) p' q' r') }

    -- from one point to another, seen from a third
    pub kept_from : Kept F F' (between p q) (between p' q') → Kept F F' (between p r) (between p' r') → Kept F F' (between q r) (between q' r')
    kept_from k l = record { on = λ i. dot_from (F i) p q r ∙ (λ t. l.on i t -ℤ k.on i t) ∙ sym (dot_from (F' i) p' q' r') }

module _ (F F' : Axis → Vector) (shape : OneShape F F') where
  -- a number is fixed by its product with the frame's volume
  fixed : {s s' : ℤ} → volume_of F *ℤ s ≡ volume_of F' *ℤ s' → s ≡ s'
  fixed {s} {s'} h = cancel (volume_of F) s s' shape.solid (h ∙ ap (λ (v : ℤ). v *ℤ s') (sym shape.volumes))

  pub kept_volume : {u v w u' v' w' : Vector} → Kept F F' u u' → Kept F F' v v' → Kept F F' w w' → volume u v w ≡ volume u' v' w'
  kept_volume {u} {v} {w} {u'} {v'} {w'} ku kv kw =
      fixed (gram (F first) (F second) (F third) u v w
      ∙ (λ t. det (ku.on first t) (kv.on first t) (kw.on first t) (ku.on second t) (kv.on second t) (kw.on second t) (ku.on third t) (kv.on third t) (kw.on third t))
      ∙ sym (gram (F' first) (F' second) (F' third) u' v' w'))

  pub kept_dot : {u v u' v' : Vector} → Kept F F' u u' → Kept F F' v v' → dot u v ≡ dot u' v'
  kept_dot {u} {v} {u'} {v'} ku kv =
      let own = shape.products in
      let a = kept_volume ku (own second) (own third) in
      let b = kept_volume (own first) ku (own third) in
      let c = kept_volume (own first) (own second) ku in
      fixed (cramer (F first) (F second) (F third) u v
      ∙ (λ t. a t *ℤ kv.on first t +ℤ b t *ℤ kv.on second t +ℤ c t *ℤ kv.on third t)
      ∙ sym (cramer (F' first) (F' second) (F' third) u' v'))

  -- Let e and b be kept and span an area. A vector is kept if its products with both are equal, and its volume over them.
  module _ {e b e' b' : Vector} (v v' : Vector) (ke : Kept F F' e e') (kb : Kept F F' b b') (ev : dot e v ≡ dot e' v') (bv : dot b v ≡ dot b' v') (height : volume e b v ≡ volume e' b' v') (wide : area e b ≢ pos 0) where
    spanned_dot : {u u' : Vector} → Kept F F' u u' → dot u v ≡ dot u' v'
    spanned_dot {u} {u'} ku =
        let ee = kept_dot ke ke in
        let eb = kept_dot ke kb in
        let bb = kept_dot kb kb in
        let ve = dot_flip e v e' v' ev in
        let vb = dot_flip b v b' v' bv in
        let ue = kept_dot ku ke in
        let ub = kept_dot ku kb in
        let floor = kept_volume ku ke kb in
        cancel (area e b) (dot u v) (dot u' v') wide (split e b u v
        ∙ (λ t. (ve t *ℤ bb t -ℤ vb t *ℤ eb t) *ℤ ue t +ℤ (vb t *ℤ ee t -ℤ ve t *ℤ eb t) *ℤ ub t +ℤ height t *ℤ floor t)
        ∙ sym (split e' b' u' v')
        ∙ sym (λ t. (ee t *ℤ bb t -ℤ eb t *ℤ eb t) *ℤ dot u' v'))

    pub kept_spanned : Kept F F' v v'
    kept_spanned = record { on = λ i. spanned_dot (shape.products i) }

  -- ---- points, each of them kept as it is seen from the point o
  module _ (o o' : Point) where
    abbrev pub Seen : Point → Point → Type 0
    Seen p p' = Kept F F' (between o p) (between o' p')

    module _ (p q p' q' : Point) (kp : Seen p p') (kq : Seen q q') where
      pub kept_distance : distance p q ≡ distance p' q'
      kept_distance = let k = kept_from F F' o p q o' p' q' kp kq in kept_dot k k

      pub kept_signed : (r s r' s' : Point) → Seen r r' → Seen s s' → signed p q r s ≡ signed p' q' r' s'
      kept_signed r s r' s' kr ks = kept_volume (kept_from F F' o p q o' p' q' kp kq) (kept_from F F' o p r o' p' r' kp kr) (kept_from F F' o p s o' p' s' kp ks)
