-- Chains: one corner more, where a chain that was begun goes on, and that a first corner has one chain.
use Rattle.std.proofs.Common.{◌≡◌, ℕ, zero, suc, ◌+◌, ◌<◌, List, [], ◌∷◌, ◌++◌, length, take, drop, sym, refl, ap, ◌∙◌, inl, inr, arith}
use Rattle.std.proofs.lemmas.List.{append-nil, append_assoc, take-append-drop}
use Rattle.drawing.specs.declared.record.Corner.{Corner}
use Rattle.drawing.specs.declared.record.Face.{Face}
use Rattle.drawing.specs.Lists.{◌∈◌, flat}
use Rattle.drawing.specs.Chains.{next_index, Follows, Chain, EachChain, Rounds}
use Rattle.drawing.proofs.Members.{in_cases, distinct_left}

module _ (cs : List Corner) where
  pub follows_push : (r : ℕ) (ks : List ℕ) (s k : ℕ) → Follows cs r ks s → s ≡ k + 1 → k < length cs → Follows cs r (ks ++ (k ∷ [])) (next_index cs k)
  follows_push r [] s k f e lt = (f ∙ e, lt, refl)
  follows_push r (j ∷ ks) s k f e lt = (f.0, f.1, follows_push (next_index cs j) ks s k f.2 e lt)

  -- what stands beyond corners that were passed
  pub record Beyond (ks all : List ℕ) (s t : ℕ) : Type 0 where
    pub rest : List ℕ
    pub splits : all ≡ ks ++ rest
    pub goes_on : Follows cs s rest t

  pub follows_split : (r : ℕ) (ks all : List ℕ) (s : ℕ) → Follows cs r ks s → Follows cs r all 0 → Beyond ks all s 0
  follows_split r [] all s f g = record { rest = all; splits = refl; goes_on = rw (sym f) g }
  follows_split r (k ∷ ks) [] s f g = absurd (omega arith)
  follows_split r (k ∷ ks) (j ∷ js) s f g =
      let e : j ≡ k = omega arith in
      let more = follows_split (next_index cs k) ks js s f.2 (rw (sym e) g.2) in
      let same = more.splits in
      record { rest = more.rest; splits = cc; goes_on = more.goes_on }

  -- from zero on nothing follows
  pub follows_none : (ks : List ℕ) → Follows cs 0 ks 0 → ks ≡ []
  follows_none [] f = refl
  follows_none (k ∷ ks) f = absurd (omega arith)

  pub follows_once : (r : ℕ) (ks js : List ℕ) → Follows cs r ks 0 → Follows cs r js 0 → js ≡ ks
  follows_once r ks js f g =
      let b = follows_split r ks js 0 f g in
      b.splits ∙ rw (follows_none b.rest b.goes_on) (append-nil ks)

  pub follows_within : (r : ℕ) (ks : List ℕ) (s k : ℕ) → Follows cs r ks s → k ∈ ks → k < length cs
  follows_within r [] s k f h = absurd h
  follows_within r (j ∷ ks) s k f (inl e) = rw e f.1
  follows_within r (j ∷ ks) s k f (inr h) = follows_within (next_index cs j) ks s k f.2 h

  pub each_push : (fs : List Face) (rounds : List (List ℕ)) (f : Face) (ks : List ℕ) → EachChain cs fs rounds → Chain cs f.first ks → EachChain cs (fs ++ (f ∷ [])) (rounds ++ (ks ∷ []))
  each_push [] [] f ks e c = (c, tt)
  each_push [] (js ∷ rounds) f ks e c = absurd e
  each_push (g ∷ fs) [] f ks e c = absurd e
  each_push (g ∷ fs) (js ∷ rounds) f ks e c = (e.0, each_push fs rounds f ks e.1 c)

  pub each_once : (fs : List Face) (rounds others : List (List ℕ)) → EachChain cs fs rounds → EachChain cs fs others → others ≡ rounds
  each_once [] [] [] d e = refl
  each_once [] [] (js ∷ others) d e = absurd e
  each_once [] (ks ∷ rounds) others d e = absurd d
  each_once (f ∷ fs) [] others d e = absurd d
  each_once (f ∷ fs) (ks ∷ rounds) [] d e = absurd e
  each_once (f ∷ fs) (ks ∷ rounds) (js ∷ others) d e =
      rw (follows_once f.first ks js d.0.follows e.0.follows, each_once fs rounds others d.1 e.1) refl

  -- the chains of some faces and one more
  pub record LastChain (fs : List Face) (f : Face) (rounds : List (List ℕ)) : Type 0 where
    pub earlier : List (List ℕ)
    pub corners : List ℕ
    pub splits : rounds ≡ earlier ++ (corners ∷ [])
    pub each : EachChain cs fs earlier
    pub last : Chain cs f.first corners

  pub each_split : (fs : List Face) (f : Face) (rounds : List (List ℕ)) → EachChain cs (fs ++ (f ∷ [])) rounds → LastChain fs f rounds
  each_split [] f [] e = absurd e
  each_split [] f (ks ∷ []) e = record { earlier = []; corners = ks; splits = refl; each = tt; last = e.0 }
  each_split [] f (ks ∷ js ∷ rounds) e = absurd e.1
  each_split (g ∷ fs) f [] e = absurd e
  each_split (g ∷ fs) f (ks ∷ rounds) e =
      let more = each_split fs f rounds e.1 in
      record { earlier = ks ∷ more.earlier; corners = more.corners; splits = ap (λ (r : List (List ℕ)). ks ∷ r) more.splits; each = (e.0, more.each); last = more.last }

  pub each_within : (fs : List Face) (rounds : List (List ℕ)) (k : ℕ) → EachChain cs fs rounds → k ∈ flat rounds → k < length cs
  each_within [] [] k e h = absurd h
  each_within [] (ks ∷ rounds) k e h = absurd e
  each_within (f ∷ fs) [] k e h = absurd e
  each_within (f ∷ fs) (ks ∷ rounds) k e h =
      elim (in_cases k ks (flat rounds) h) [ inl a ↦ follows_within f.first ks 0 k e.0.follows a | inr b ↦ each_within fs rounds k e.1 b ]

pub flat_push : (rounds : List (List ℕ)) (ks : List ℕ) → flat (rounds ++ (ks ∷ [])) ≡ flat rounds ++ ks
flat_push [] ks = append-nil ks
flat_push (js ∷ rounds) ks = rw (flat_push rounds ks) (sym (append_assoc js (flat rounds) ks))

flat_append : (xss yss : List (List ℕ)) → flat (xss ++ yss) ≡ flat xss ++ flat yss
flat_append [] yss = refl
flat_append (xs ∷ xss) yss = rw (flat_append xss yss) (sym (append_assoc xs (flat xss) (flat yss)))

each_take : (cs : List Corner) (m : ℕ) (fs : List Face) (rounds : List (List ℕ)) → EachChain cs fs rounds → EachChain cs (take m fs) (take m rounds)
each_take cs zero fs rounds e = tt
each_take cs (suc m) [] [] e = tt
each_take cs (suc m) [] (ks ∷ rounds) e = absurd e
each_take cs (suc m) (f ∷ fs) [] e = absurd e
each_take cs (suc m) (f ∷ fs) (ks ∷ rounds) e = (e.0, each_take cs m fs rounds e.1)

-- where all faces have chains, so have the first of them
pub rounds_take : (cs : List Corner) (fs : List Face) (rounds : List (List ℕ)) (m : ℕ) → Rounds cs fs rounds → Rounds cs (take m fs) (take m rounds)
rounds_take cs fs rounds m r = record {
  chains = each_take cs m fs rounds r.chains;
  apart = distinct_left (flat (take m rounds)) (flat (drop m rounds))
      (rw (sym (flat_append (take m rounds) (drop m rounds)), take-append-drop m rounds) r.apart);
}
