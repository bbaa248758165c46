-- Each call has one answer.
use Rattle.std.proofs.Common.{◌≡◌, ℕ, ◌+◌, ◌-◌, ◌<◌, ◌≤◌, Bool, List, [], ◌∷◌, ◌++◌, take, Ok, Err, Result, sym, ap, ◌∙◌, inl, inr, arith}
use Rattle.std.proofs.lemmas.List.{ext_get_or, get_or-take}
use Rattle.std.proofs.lemmas.Bool.{cases_lt, cases_order}
use Rattle.drawing.specs.Lists.{at}
use Rattle.drawing.specs.Nets.{Net, edges}
use Rattle.drawing.specs.Verdicts.{Tables}
use Rattle.drawing.proofs.Judgement.{refused_once, sound_not_refused}
use Rattle.pairing.proofs.Composing.{agree}
use Rattle.laying.specs.Layings.{image_of}
use Rattle.calls.specs.declared.refusal.Refusal.{Refusal}
use Rattle.calls.specs.Reasons.{of_drawing}
use Rattle.calls.specs.Entries.{entry, Known}
use Rattle.calls.specs.Answers.{Rejected, drawing, full, Entering, Standing, Unknown, first, second, Opening, Buffers, Stepped, found, ended, KeptBeyond, Made, Short, images, work, Unstepped, unknown, short, HandsOut, Stepping, First, Next, last, later, Asking, LowestInPart, NoPart, beyond, Parting}
use Rattle.calls.proofs.Entering.{AllChecked, turned_away, accepted_once, accepted_or_not}
use Rattle.calls.proofs.Listed.{first_edge, first_out, image_out, edge_out}

-- ---- enter

rejected_once : (capacity : ℕ) (nets : List Net) (t : Tables) (f g : Refusal) → Rejected capacity nets t f → Rejected capacity nets t g → f ≡ g
rejected_once capacity nets t f g (drawing x r is) (drawing y q is') = is ∙ (ap of_drawing (refused_once t x y r q) ∙ sym is')
rejected_once capacity nets t f g (drawing x r is) (full sound out is') = absurd (sound_not_refused t x sound r)
rejected_once capacity nets t f g (full sound out is) (drawing y q is') = absurd (sound_not_refused t y sound q)
rejected_once capacity nets t f g (full sound out is) (full sound' out' is') = is ∙ sym is'

pub entering_once : (capacity : ℕ) (nets : List Net) (t : Tables) (r q : Result ℕ Refusal) (after other : List Net) → Entering capacity nets t r after → Entering capacity nets t q other → (r ≡ q) × (after ≡ other)
entering_once capacity nets t (Ok m) (Ok n) after other a b =
    (ap Ok (a.number_is ∙ sym b.number_is), a.after_is ∙ (ap (λ z. nets ++ (z ∷ [])) (sym (accepted_once capacity nets t a.net b.net a.accepted b.accepted)) ∙ sym b.after_is))
entering_once capacity nets t (Ok m) (Err g) after other a b = absurd (accepted_or_not capacity nets t a.net a.accepted (turned_away capacity nets t g b.0))
entering_once capacity nets t (Err f) (Ok n) after other a b = absurd (accepted_or_not capacity nets t b.net b.accepted (turned_away capacity nets t f a.0))
entering_once capacity nets t (Err f) (Err g) after other a b = (ap Err (rejected_once capacity nets t f g a.0 b.0), a.1 ∙ sym b.1)

-- ---- listings

unknown_not : (nets : List Net) (i j : ℕ) (f : Refusal) → Unknown nets i j f → Known nets i → Known nets j → ⊥
unknown_not nets i j f (first out is) ki kj = out ki
unknown_not nets i j f (second k out is) ki kj = out kj

unknown_once : (nets : List Net) (i j : ℕ) (f g : Refusal) → Unknown nets i j f → Unknown nets i j g → f ≡ g
unknown_once nets i j f g (first out is) (first out' is') = is ∙ sym is'
unknown_once nets i j f g (first out is) (second k out' is') = absurd (out k)
unknown_once nets i j f g (second k out is) (first out' is') = absurd (out' k)
unknown_once nets i j f g (second k out is) (second k' out' is') = is ∙ sym is'

pub opening_once : (nets : List Net) (i j : ℕ) (r q : Result Standing Refusal) → Opening nets i j r → Opening nets i j q → r ≡ q
opening_once nets i j (Ok s) (Ok t) a b = ap Ok (a.stands ∙ sym b.stands)
opening_once nets i j (Ok s) (Err g) a b = absurd (unknown_not nets i j g b a.from_known a.to_known)
opening_once nets i j (Err f) (Ok t) a b = absurd (unknown_not nets i j f a b.from_known b.to_known)
opening_once nets i j (Err f) (Err g) a b = ap Err (unknown_once nets i j f g a b)

-- ---- step

short_once : (n : ℕ) (b : Buffers) (f g : Refusal) → Short n b f → Short n b g → f ≡ g
short_once n b f g (images lt is) (images lt' is') = is ∙ sym is'
short_once n b f g (images lt is) (work le lt' is') = absurd (omega arith)
short_once n b f g (work le lt is) (images lt' is') = absurd (omega arith)
short_once n b f g (work le lt is) (work le' lt' is') = is ∙ sym is'

unstepped_once : (nets : List Net) (l : Standing) (b : Buffers) (f g : Refusal) → Unstepped nets l b f → Unstepped nets l b g → f ≡ g
unstepped_once nets l b f g (unknown x) (unknown y) = unknown_once nets l.from l.to f g x y
unstepped_once nets l b f g (unknown x) (short kf kt y) = absurd (unknown_not nets l.from l.to f x kf kt)
unstepped_once nets l b f g (short kf kt x) (unknown y) = absurd (unknown_not nets l.from l.to g y kf kt)
unstepped_once nets l b f g (short kf kt x) (short kf' kt' y) = short_once (edges (entry nets l.from)) b f g x y

unstepped_not : (nets : List Net) (l : Standing) (b c : Buffers) (f : Refusal) → Unstepped nets l b f → Made nets l b c → ⊥
unstepped_not nets l b c f (unknown x) m = unknown_not nets l.from l.to f x m.from_known m.to_known
unstepped_not nets l b c f (short kf kt (images lt is)) m = omega (arith, m.images_room)
unstepped_not nets l b c f (short kf kt (work le lt is)) m = omega (arith, m.work_room)

-- a buffer that is told on its first n places, and kept beyond
buffer_once : (n : ℕ) (before after other : List ℕ) → KeptBeyond n before after → KeptBeyond n before other → ((k : ℕ) → k < n → at after k ≡ at other k) → after ≡ other
buffer_once n before after other a b told = ext_get_or 0 after other (a.size ∙ sym b.size) (λ k lt. elim (cases_lt k n) [
  | inl in-n ↦ told k in-n
  | inr past ↦ a.rest k past ∙ sym (b.rest k past)
])

work_once : (nets : List Net) (l : Standing) (b c d : Buffers) → Made nets l b c → Made nets l b d → c.work ≡ d.work
work_once nets l b c d x y = buffer_once (edges (entry nets l.from)) b.work c.work d.work x.work_kept y.work_kept (λ k lt. x.clean k lt ∙ sym (y.clean k lt))

module _ {L : Type 0} (label : Net → ℕ → L) (same : L → L → Bool) (nets : List Net) (checked : AllChecked nets) (l : Standing) (b : Buffers) where
  abbrev n : ℕ
  n = edges (entry nets l.from)

  module _ (c d : Buffers) (f g : ℕ) (m k : Standing) (x : HandsOut label same nets l b c f m) (y : HandsOut label same nets l b d g k) where
    hands_once : f ≡ g
    hands_once = elim (cases_order f g) [
      | inl is ↦ is
      | inr (inl lt) ↦ absurd (y.lowest f x.beyond lt (image_out label same nets checked l b c f m x))
      | inr (inr gt) ↦ absurd (x.lowest g y.beyond gt (image_out label same nets checked l b d g k y))
    ]

    moved_once : m ≡ k
    moved_once = x.stands ∙ (ap (λ p. record { from = l.from; to = l.to; place = p; count = l.count + 1 }) hands_once ∙ sym y.stands)

    -- one image fixes a pairing
    images_once : c.images ≡ d.images
    images_once = buffer_once n b.images c.images d.images x.images_kept y.images_kept (λ e lt.
        let first_same = ap (λ z. z - 1) (first_out label same nets checked l b c f m x ∙ (hands_once ∙ sym (first_out label same nets checked l b d g k y))) in
        let here = agree (entry nets l.from) (entry nets l.to) (image_of (take n c.images)) (image_of (take n d.images)) (checked l.from x.made.from_known) (checked l.to x.made.to_known) x.laid.pairing.matches y.laid.pairing.matches 0 (first_edge label same nets checked l b c f m x) first_same e lt in
        omega (arith, here, get_or-take n c.images e 0 lt, get_or-take n d.images e 0 lt, (x.laid.listed.numbered e lt).from_one, (y.laid.listed.numbered e lt).from_one))

  buffers_same : (c d : Buffers) → c.images ≡ d.images → c.work ≡ d.work → c ≡ d
  buffers_same c d p q = λ i. record { images = p i; work = q i }

  pub stepping_once : (r q : Result Stepped Refusal) (c d : Buffers) → Stepping label same nets l b r c → Stepping label same nets l b q d → (r ≡ q) × (c ≡ d)
  stepping_once (Ok (found f m)) (Ok (found g k)) c d x y =
      let p = hands_once c d f g m k x y in
      let q = moved_once c d f g m k x y in
      ((λ i. Ok (found (p i) (q i))), buffers_same c d (images_once c d f g m k x y) (work_once nets l b c d x.made y.made))
  stepping_once (Ok (found f m)) (Ok (ended o)) c d x y = absurd (y.none f x.beyond (edge_out label same nets checked l b c f m x) (image_out label same nets checked l b c f m x))
  stepping_once (Ok (found f m)) (Err g) c d x y = absurd (unstepped_not nets l b c g y.0 x.made)
  stepping_once (Ok (ended o)) (Ok (found g k)) c d x y = absurd (x.none g y.beyond (edge_out label same nets checked l b d g k y) (image_out label same nets checked l b d g k y))
  stepping_once (Ok (ended o)) (Ok (ended p)) c d x y =
      (ap (λ z. Ok (ended z)) (x.count_is ∙ sym y.count_is), buffers_same c d (x.images_same ∙ sym y.images_same) (work_once nets l b c d x.made y.made))
  stepping_once (Ok (ended o)) (Err g) c d x y = absurd (unstepped_not nets l b c g y.0 x.made)
  stepping_once (Err f) (Ok (found g k)) c d x y = absurd (unstepped_not nets l b d f x.0 y.made)
  stepping_once (Err f) (Ok (ended p)) c d x y = absurd (unstepped_not nets l b d f x.0 y.made)
  stepping_once (Err f) (Err g) c d x y = (ap Err (unstepped_once nets l b f g x.0 y.0), x.1 ∙ sym y.1)

-- ---- kin and part
module _ {L : Type 0} (label : Net → ℕ → L) (same : L → L → Bool) (nets : List Net) where
  first_once : (i f g : ℕ) → First label same nets i f → First label same nets i g → f ≡ g
  first_once i f g x y = omega (arith, x.lowest g y.known y.kin, y.lowest f x.known x.kin)

  next_once : (i m n : ℕ) → Next label same nets i m → Next label same nets i n → m ≡ n
  next_once i m n (last is none) (last is' none') = is ∙ sym is'
  next_once i m n (last is none) (later known lt kin lowest) = absurd (none n known lt kin)
  next_once i m n (later known lt kin lowest) (last is none) = absurd (none m known lt kin)
  next_once i m n (later known lt kin lowest) (later known' lt' kin' lowest') = elim (cases_order m n) [
    | inl is ↦ is
    | inr (inl less) ↦ absurd (lowest' m lt less kin)
    | inr (inr more) ↦ absurd (lowest n lt' more kin')
  ]

  pub asking_once : (i : ℕ) (r q : Result (ℕ × ℕ) Refusal) → Asking label same nets i r → Asking label same nets i q → r ≡ q
  asking_once i (Ok r) (Ok q) a b =
      let f = first_once i r.0 q.0 a.first b.first in
      let n = next_once i r.1 q.1 a.next b.next in
      λ i. Ok (f i, n i)
  asking_once i (Ok r) (Err g) a b = absurd (b.0 a.known)
  asking_once i (Err f) (Ok q) a b = absurd (a.0 b.known)
  asking_once i (Err f) (Err g) a b = ap Err (a.1 ∙ sym b.1)

  part_le : (i e p q : ℕ) → LowestInPart label same nets i e p → LowestInPart label same nets i e q → p ≤ q
  part_le i e p q x y = rw y.number_is (x.lowest y.j y.d y.j_known y.d_edge y.shares)

  no_part_not : (i e p : ℕ) (f : Refusal) → NoPart label same nets i e f → LowestInPart label same nets i e p → ⊥
  no_part_not i e p f (unknown out is) x = out x.known
  no_part_not i e p f (beyond k out is) x = out x.edge

  no_part_once : (i e : ℕ) (f g : Refusal) → NoPart label same nets i e f → NoPart label same nets i e g → f ≡ g
  no_part_once i e f g (unknown out is) (unknown out' is') = is ∙ sym is'
  no_part_once i e f g (unknown out is) (beyond k out' is') = absurd (out k)
  no_part_once i e f g (beyond k out is) (unknown out' is') = absurd (out' k)
  no_part_once i e f g (beyond k out is) (beyond k' out' is') = is ∙ sym is'

  pub parting_once : (i e : ℕ) (r q : Result ℕ Refusal) → Parting label same nets i e r → Parting label same nets i e q → r ≡ q
  parting_once i e (Ok p) (Ok q) a b =
      let is : p ≡ q = omega (arith, part_le i e p q a b, part_le i e q p b a) in
      ap Ok is
  parting_once i e (Ok p) (Err g) a b = absurd (no_part_not i e p g b a)
  parting_once i e (Err f) (Ok q) a b = absurd (no_part_not i e q f a b)
  parting_once i e (Err f) (Err g) a b = ap Err (no_part_once i e f g a b)
