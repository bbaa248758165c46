-- The chains of all faces, face by face, and the next edges that go round them.
use Rattle.std.proofs.Common.{◌≡◌, ℕ, ◌+◌, ◌-◌, ◌<◌, ◌≤◌, eqb, List, [], ◌∷◌, ◌++◌, map, length, Some, get_or, take, sym, refl, ap, ◌∙◌, inl, inr, arith}
use Rattle.std.specs.List.{AllByRecursion}
use Rattle.std.proofs.lemmas.List.{take_more}
use Rattle.std.proofs.lemmas.Option.{same_Some}
use Rattle.std.proofs.ByRecursion.{All-push}
use Rattle.std.proofs.lemmas.Bool.{eq-eqb, ne_eqb, cond-true, cond-false}
use Rattle.drawing.specs.declared.record.Corner.{Corner}
use Rattle.drawing.specs.declared.record.Face.{Face}
use Rattle.drawing.specs.Lists.{at, ◌∈◌, Distinct, flat, rotated}
use Rattle.drawing.specs.Chains.{next_index, Follows, Chain, EachChain, Linked}
use Rattle.drawing.specs.Homes.{AtHome}
use Rattle.drawing.specs.Verdicts.{Followed}
use Rattle.drawing.proofs.Members.{in_left, in_right, in_cases, all_in, all_from_in}
use Rattle.drawing.proofs.Following.{each_push, each_split, each_once, each_within, flat_push}
use Rattle.tables.specs.declared.walk.Walk.{Walk}
use Rattle.tables.specs.Steps.{home_of, Housed}
use Rattle.tables.specs.Walks.{Taken, HomeIs, WalkedAll, Complete, next_of}
use Rattle.tables.proofs.Counting.{met_is}
use Rattle.tables.proofs.Meeting.{seen}

abbrev no_face : Face
no_face = record { first = 0 }

-- homes that are kept on the corners of some chains
homes_kept : (w after : Walk) (rounds : List (List ℕ)) → ((k : ℕ) → k ∈ flat rounds → home_of after.home k ≡ home_of w.home k) → AllByRecursion (HomeIs w) rounds → AllByRecursion (HomeIs after) rounds
homes_kept w after [] same h = tt
homes_kept w after (ks ∷ rounds) same h =
    (one ks (λ k m. same k (in_left k ks (flat rounds) m)) h.0, homes_kept w after rounds (λ k m. same k (in_right k ks (flat rounds) m)) h.1)
  where
    one : (js : List ℕ) → ((k : ℕ) → k ∈ js → home_of after.home k ≡ home_of w.home k) → HomeIs w js → HomeIs after js
    one [] same h = tt
    one (k ∷ js) same h = all_from_in _ (k ∷ js) (λ j m. same j m ∙ all_in (λ j. home_of w.home j ≡ Some k) (k ∷ js) h j m)

-- homes as numbers, where each corner of the chains has one
homes_read : (w : Walk) (n : ℕ) (homes : List ℕ) → Housed n w.home homes → (rounds : List (List ℕ)) → ((k : ℕ) → k ∈ flat rounds → k < n) → AllByRecursion (HomeIs w) rounds → AllByRecursion (AtHome homes) rounds
homes_read w n homes housed [] within h = tt
homes_read w n homes housed (ks ∷ rounds) within h =
    (one ks (λ k m. within k (in_left k ks (flat rounds) m)) h.0, homes_read w n homes housed rounds (λ k m. within k (in_right k ks (flat rounds) m)) h.1)
  where
    one : (js : List ℕ) → ((k : ℕ) → k ∈ js → k < n) → HomeIs w js → AtHome homes js
    one [] within h = tt
    one (k ∷ js) within h =
        all_from_in (λ j. at homes j ≡ k) (k ∷ js)
        (λ j m. same_Some (at homes j) k (sym (housed.each j (within j m)) ∙ all_in (λ j. home_of w.home j ≡ Some k) (k ∷ js) h j m))

-- the home of a chain's corner is in the chain
pub home_in : (home : List ℕ) (rounds : List (List ℕ)) → AllByRecursion (AtHome home) rounds → (k : ℕ) → k ∈ flat rounds → at home k ∈ flat rounds
home_in home [] h k m = m
home_in home (ks ∷ rounds) h k m =
    elim (in_cases k ks (flat rounds) m) [
      | inl a ↦ in_left (at home k) ks (flat rounds) (one ks h.0 a)
      | inr b ↦ in_right (at home k) ks (flat rounds) (home_in home rounds h.1 k b)
    ]
  where
    one : (js : List ℕ) → AtHome home js → k ∈ js → at home k ∈ js
    one [] a m = absurd m
    one (j ∷ js) a m = inl (all_in (λ i. at home i ≡ j) (j ∷ js) a k m)

new_home : (cs : List Corner) (first : ℕ) (w : Walk) (ks : List ℕ) → Follows cs first ks 0 → ((k : ℕ) → k ∈ ks → home_of w.home k ≡ Some (first - 1)) → HomeIs w ks
new_home cs first w [] f h = tt
new_home cs first w (k ∷ ks) f h =
    let e : first - 1 ≡ k = omega arith in
    all_from_in (λ j. home_of w.home j ≡ Some k) (k ∷ ks) (λ j m. h j m ∙ ap Some e)

module _ (cs : List Corner) where
  pub walked_none : (w : Walk) → w.order.items ≡ [] → WalkedAll cs [] w
  walked_none w e = record { rounds = []; drawn = record { chains = tt; apart = tt }; order_is = e; homes = tt }

  walked_more : (fs : List Face) (f : Face) (w after : Walk) → WalkedAll cs fs w → Taken cs f.first w after → WalkedAll cs (fs ++ (f ∷ [])) after
  walked_more fs f w after a t =
      let o = t.onward in
      let list : after.order.items ≡ flat (a.rounds ++ (t.corners ∷ [])) = o.order_is ∙ (ap (λ (xs : List ℕ). xs ++ t.corners) a.order_is ∙ sym (flat_push a.rounds t.corners)) in
      record {
        rounds = a.rounds ++ (t.corners ∷ []);
        drawn = record { chains = each_push cs fs a.rounds f t.corners a.drawn.chains t.chain; apart = rw list at after.apart };
        order_is = list;
        homes = All-push (HomeIs after) a.rounds t.corners
            (homes_kept w after a.rounds (λ k m. o.kept k (rw a.order_is m)) a.homes)
            (new_home cs f.first after t.corners t.chain.follows o.homes);
      }

  module _ (fs : List Face) (i : ℕ) (lt : i < length fs) (w : Walk) (a : WalkedAll cs (take i fs) w) where
    abbrev f : Face
    f = get_or fs i no_face

    one_more : take (i + 1) fs ≡ take i fs ++ (f ∷ [])
    one_more = take_more fs i no_face lt

    pub walked_next : (after : Walk) → Taken cs f.first w after → WalkedAll cs (take (i + 1) fs) after
    walked_next after t = rw one_more (walked_more (take i fs) f w after a t)

    pub followed_next : (after : Walk) → Taken cs f.first w after → Followed cs fs i
    followed_next after t = let n = walked_next after t in record { rounds = n.rounds; drawn = n.drawn }

    pub not_followed : ((ks : List ℕ) → Chain cs f.first ks → Distinct (w.order.items ++ ks) → ⊥) → Followed cs fs i → ⊥
    not_followed bad g =
        let d = rw one_more at g.drawn in
        let s = each_split cs (take i fs) f g.rounds d.chains in
        let same = each_once cs (take i fs) a.rounds s.earlier a.drawn.chains s.each in
        let list : flat g.rounds ≡ w.order.items ++ s.corners = ap flat s.splits ∙ (flat_push s.earlier s.corners ∙ rw same (ap (λ (xs : List ℕ). xs ++ s.corners) (sym a.order_is))) in
        bad s.corners s.last (rw list at d.apart)

  -- all faces, and each corner met or one missed
  module _ (fs : List Face) (w : Walk) (a : WalkedAll cs fs w) where
    pub complete : length cs ≤ 480 → (homes : List ℕ) → Housed (length cs) w.home homes → Complete cs fs w.order.items homes
    complete few homes housed = record {
      rounds = a.rounds;
      drawn = a.drawn;
      covers = λ k lt. rw a.order_is at (seen _ _ w.steady k (rw (housed.each k lt) refl));
      order_is = a.order_is;
      order_size = met_is cs fs w homes few a housed;
      home_size = housed.size;
      homes = homes_read w (length cs) homes housed a.rounds (λ k m. each_within cs fs a.rounds k a.drawn.chains m) a.homes;
    }

  -- the next edges go round a chain
  module _ (home next : List ℕ) (h : ℕ) where
    round : (k : ℕ) (ks : List ℕ) → Follows cs (k + 1) (k ∷ ks) 0 → ((j : ℕ) → j ∈ (k ∷ ks) → at next j ≡ next_of cs home j) → ((j : ℕ) → j ∈ (k ∷ ks) → at home j ≡ h) → map (at next) (k ∷ ks) ≡ ks ++ (h ∷ [])
    round k [] f is at_home =
        let last = is k (inl refl) ∙ (cond-true (eqb (next_index cs k) 0) _ _ (eq-eqb (next_index cs k) 0 f.2) ∙ at_home k (inl refl)) in
        ap (λ (n : ℕ). n ∷ []) last
    round k (j ∷ js) f is at_home =
        let more = round j js (refl, f.2.1, f.2.2) (λ i m. is i (inr m)) (λ i m. at_home i (inr m)) in
        let here : at next k ≡ j = is k (inl refl) ∙ (cond-false (eqb (next_index cs k) 0) _ _ (ne_eqb (next_index cs k) 0 (λ z. omega arith)) ∙ omega arith) in
        cc

  rounds_turn : (home next : List ℕ) (fs : List Face) (rounds : List (List ℕ)) → EachChain cs fs rounds → AllByRecursion (AtHome home) rounds → ((k : ℕ) → k ∈ flat rounds → at next k ≡ next_of cs home k) → AllByRecursion (λ ks. map (at next) ks ≡ rotated ks) rounds
  rounds_turn home next fs [] e h is = tt
  rounds_turn home next [] (ks ∷ rounds) e h is = absurd e
  rounds_turn home next (f ∷ fs) (ks ∷ rounds) e h is =
      (one ks e.0.follows h.0 (λ k m. is k (in_left k ks (flat rounds) m)), rounds_turn home next fs rounds e.1 h.1 (λ k m. is k (in_right k ks (flat rounds) m)))
    where
      one : (js : List ℕ) → Follows cs f.first js 0 → AtHome home js → ((k : ℕ) → k ∈ js → at next k ≡ next_of cs home k) → map (at next) js ≡ rotated js
      one [] g a is = refl
      one (k ∷ js) g a is = round home next k k js (refl, g.1, g.2) is (all_in (λ j. at home j ≡ k) (k ∷ js) a)

  pub linked : (fs : List Face) (order home next : List ℕ) → Complete cs fs order home → length next ≡ length cs → ((k : ℕ) → k < length cs → at next k ≡ next_of cs home k) → Linked cs fs next
  linked fs order home next all size is = record {
    rounds = all.rounds;
    drawn = all.drawn;
    covers = all.covers;
    size = size;
    goes_round = rounds_turn home next fs all.rounds all.drawn.chains all.homes (λ k m. is k (each_within cs fs all.rounds k all.drawn.chains m));
  }
