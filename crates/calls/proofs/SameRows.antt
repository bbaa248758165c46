-- Two rows of the same calls are the same.
use Rattle.std.proofs.Common.{◌≡◌, ℕ, Bool, List, [], ◌∷◌, ◌++◌, map, set, Result, sym, refl, ap, ◌∙◌, subst, arith}
use Rattle.drawing.specs.Nets.{Net}
use Rattle.calls.specs.declared.refusal.Refusal.{Refusal}
use Rattle.calls.specs.Answers.{Standing, Buffers, Stepped, Stepping}
use Rattle.calls.specs.Rows.{Event, entered, opened, stepped, strayed, kin, part, Call, enter, list, step, stray, kin_of, part_of, call_of, State, fresh, more, left, Turn, Row, SameCallsSameAnswers}
use Rattle.calls.proofs.Entering.{AllChecked}
use Rattle.calls.proofs.Turning.{grown}
use Rattle.calls.proofs.Single.{entering_once, opening_once, stepping_once, asking_once, parting_once}

states_same : (u v : State) → u.nets ≡ v.nets → u.listings ≡ v.listings → u ≡ v
states_same u v p q = λ i. record { nets = p i; listings = q i }

module _ {L : Type 0} (label : Net → ℕ → L) (same : L → L → Bool) (capacity : ℕ) where
  -- The event e answers this call, and takes s to u.
  abbrev Answers : State → Call → Event → State → Type 0
  Answers s (enter t) e u = (r : Result ℕ Refusal) × (e ≡ entered t r) × Turn label same capacity s (entered t r) u
  Answers s (list i j) e u = (r : Result Standing Refusal) × (e ≡ opened i j r) × Turn label same capacity s (opened i j r) u
  Answers s (step k b) e u = (r : Result Stepped Refusal) × (c : Buffers) × (e ≡ stepped k b r c) × Turn label same capacity s (stepped k b r c) u
  Answers s (stray l b) e u = (r : Result Stepped Refusal) × (c : Buffers) × (e ≡ strayed l b r c) × Turn label same capacity s (strayed l b r c) u
  Answers s (kin_of i) e u = (r : Result (ℕ × ℕ) Refusal) × (e ≡ kin i r) × Turn label same capacity s (kin i r) u
  Answers s (part_of i d) e u = (r : Result ℕ Refusal) × (e ≡ part i d r) × Turn label same capacity s (part i d r) u

  as_answer : (s u : State) (e : Event) → Turn label same capacity s e u → Answers s (call_of e) e u
  as_answer s u (entered t r) h = (r, refl, h)
  as_answer s u (opened i j r) h = (r, refl, h)
  as_answer s u (stepped k b r c) h = (r, c, refl, h)
  as_answer s u (strayed l b r c) h = (r, c, refl, h)
  as_answer s u (kin i r) h = (r, refl, h)
  as_answer s u (part i d r) h = (r, refl, h)

  answers_once : (s u v : State) (e f : Event) (call : Call) → AllChecked s.nets → Answers s call e u → Answers s call f v → (e ≡ f) × (u ≡ v)
  answers_once s u v e f (enter t) checked (r, is, x) (q, is', y) =
      let (one, nets-same) = entering_once capacity s.nets t r q u.nets v.nets x.0 y.0 in
      (is ∙ (ap (entered t) one ∙ sym is'), states_same u v nets-same (x.1 ∙ sym y.1))
  answers_once s u v e f (list i j) checked (r, is, x) (q, is', y) =
      let one = opening_once s.nets i j r q x.0 y.0 in
      (is ∙ (ap (opened i j) one ∙ sym is'), states_same u v (x.1 ∙ sym y.1) (x.2 ∙ (ap (λ z. s.listings ++ more z) one ∙ sym y.2)))
  answers_once s u v e f (step k b) checked (r, c, is, x) (q, d, is', y) =
      let stood : x.0 ≡ y.0 = cc (x.1, y.1) in
      let (one, buffers) = stepping_once label same s.nets checked x.0 b r q c d x.2 (subst (λ l. Stepping label same s.nets l b q d) (sym stood) y.2) in
      (is ∙ ((λ i. stepped k b (one i) (buffers i)) ∙ sym is'), states_same u v (x.3 ∙ sym y.3) (x.4 ∙ ((λ i. set s.listings k (left (stood i) (one i))) ∙ sym y.4)))
  answers_once s u v e f (stray l b) checked (r, c, is, x) (q, d, is', y) =
      let (one, buffers) = stepping_once label same s.nets checked l b r q c d x.0 y.0 in
      (is ∙ ((λ i. strayed l b (one i) (buffers i)) ∙ sym is'), states_same u v (x.1 ∙ sym y.1) (x.2 ∙ sym y.2))
  answers_once s u v e f (kin_of i) checked (r, is, x) (q, is', y) =
      (is ∙ (ap (kin i) (asking_once label same s.nets i r q x.0 y.0) ∙ sym is'), states_same u v (x.1 ∙ sym y.1) (x.2 ∙ sym y.2))
  answers_once s u v e f (part_of i d) checked (r, is, x) (q, is', y) =
      (is ∙ (ap (part i d) (parting_once label same s.nets i d r q x.0 y.0) ∙ sym is'), states_same u v (x.1 ∙ sym y.1) (x.2 ∙ sym y.2))

  rows_once : (s : State) (es fs : List Event) → AllChecked s.nets → Row label same capacity s es → Row label same capacity s fs → map call_of es ≡ map call_of fs → es ≡ fs
  rows_once s [] [] checked x y is = refl
  rows_once s [] (f ∷ fs) checked x y is = absurd (let z : ◌≡◌ {A = ℕ} 0 1 = cc in omega arith)
  rows_once s (e ∷ es) [] checked x y is = absurd (let z : ◌≡◌ {A = ℕ} 0 1 = cc in omega arith)
  rows_once s (e ∷ es) (f ∷ fs) checked (u, x, xs) (v, y, ys) is =
      let call_same : call_of e ≡ call_of f = cc in
      let calls_same : map call_of es ≡ map call_of fs = cc in
      let (one, after_same) = answers_once s u v e f (call_of f) checked (subst (λ c. Answers s c e u) call_same (as_answer s u e x)) (as_answer s v f y) in
      let rest = rows_once u es fs ((grown label same capacity s u e x).checked checked) xs (subst (λ w. Row label same capacity w fs) (sym after_same) ys) calls_same in
      λ i. one i ∷ rest i

module _ {L : Type 0} (label : Net → ℕ → L) (same : L → L → Bool) where
  pub same_calls_same_answers_lem : SameCallsSameAnswers label same
  same_calls_same_answers_lem capacity es fs = rows_once label same capacity fresh es fs (λ i k. absurd (omega (arith, k.from_one, k.to_last)))
