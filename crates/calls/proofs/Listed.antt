-- A listing: what it has handed out, and where it stands.
use Rattle.std.proofs.Common.{◌≡◌, ℕ, ◌+◌, ◌-◌, ◌<◌, ◌≤◌, Bool, List, [], ◌∷◌, ◌++◌, map, length, take, Some, None, Option, sym, refl, ap, ◌∙◌, subst, arith}
use Rattle.std.proofs.ByRecursion.{All-push}
use Rattle.std.proofs.lemmas.List.{get_or-take, length_push, map_push, map_more}
use Rattle.drawing.specs.Lists.{at, ◌∈◌}
use Rattle.drawing.specs.Nets.{Net, edges}
use Rattle.pairing.proofs.Composing.{first_within}
use Rattle.pairing.proofs.Deciding.{first_images, listed}
use Rattle.laying.specs.Layings.{image_of, Laid}
use Rattle.calls.specs.Entries.{entry, Known}
use Rattle.calls.specs.Answers.{Standing, Buffers, Image, HandsOut, Ends}
use Rattle.calls.specs.Rows.{Lays, FirstOfAll}
use Rattle.calls.proofs.Rising.{Split, split_none, split_all, next_within, next_is, split_next}
use Rattle.calls.proofs.Entering.{AllChecked, known_stays, entry_stays}

-- The listing was left there, with n pairings handed out: their images of edge 1 are those up to its place.
pub record AsLeft (lays : Lays) (images : List ℕ) (n : ℕ) (l : Standing) : Type 0 where
  pub from_is : l.from ≡ lays.from
  pub to_is : l.to ≡ lays.to
  pub count_is : l.count ≡ n
  pub split : Split images n l.place

module _ {L : Type 0} (label : Net → ℕ → L) (same : L → L → Bool) where
  -- What holds of a listing at every time; it stands somewhere until it has ended.
  pub record Going (nets : List Net) (lays : Lays) (out : List (List ℕ)) (o : Option Standing) : Type 0 where
    pub from_known : Known nets lays.from
    pub to_known : Known nets lays.to
    pub so_far : FirstOfAll label same nets lays out
    pub left : (l : Standing) → o ≡ Some l → AsLeft lays so_far.images (length out) l

  pub going_stays : (nets new : List Net) (lays : Lays) (out : List (List ℕ)) (o : Option Standing) → Going nets lays out o → Going (nets ++ new) lays out o
  going_stays nets new lays out o h =
      let from_same = entry_stays nets new lays.from h.from_known in
      let to_same = entry_stays nets new lays.to h.to_known in
      record {
        from_known = known_stays nets new lays.from h.from_known;
        to_known = known_stays nets new lays.to h.to_known;
        so_far = record {
          images = h.so_far.images;
          all = rw (from_same, to_same) h.so_far.all;
          pairings = rw (from_same, to_same) h.so_far.pairings;
          firsts = h.so_far.firsts;
        };
        left = h.left;
      }

  -- one that has just been opened
  pub going_opened : (nets : List Net) (lays : Lays) → AllChecked nets → Known nets lays.from → Known nets lays.to → Going nets lays [] (Some (record { from = lays.from; to = lays.to; place = 0; count = 0 }))
  going_opened nets lays checked kf kt =
      let xs = first_images label same (entry nets lays.from) (entry nets lays.to) (checked lays.from kf) (checked lays.to kt) in
      record {
        from_known = kf;
        to_known = kt;
        so_far = record { images = xs.0; all = xs.1; pairings = tt; firsts = refl };
        left = λ l is.
            let same_l : record { from = lays.from; to = lays.to; place = 0; count = 0 } ≡ l = cc in
            subst (AsLeft lays xs.0 0) same_l (record { from_is = refl; to_is = refl; count_is = refl; split = split_none xs.0 });
      }

  -- one that has ended
  pub going_ended : (nets : List Net) (lays : Lays) (out : List (List ℕ)) (o : Option Standing) → Going nets lays out o → Going nets lays out None
  going_ended nets lays out o h = record {
    from_known = h.from_known;
    to_known = h.to_known;
    so_far = h.so_far;
    left = λ l is. let z : ◌≡◌ {A = ℕ} 0 1 = cc in absurd (omega arith);
  }

  -- What a step hands out, by itself.
  module _ (nets : List Net) (checked : AllChecked nets) (l : Standing) (before after : Buffers) (g : ℕ) (moved : Standing) (hands : HandsOut label same nets l before after g moved) where
    abbrev way_out : List ℕ
    way_out = take (edges (entry nets l.from)) after.images

    pub first_edge : 0 < edges (entry nets l.from)
    first_edge = first_within (entry nets l.from) (checked l.from hands.made.from_known)

    pub first_out : at way_out 0 ≡ g
    first_out = get_or-take (edges (entry nets l.from)) after.images 0 0 first_edge ∙ hands.first

    pub image_out : Image label same nets l g
    image_out = record { way = image_of way_out; pairing = hands.laid.pairing; image = ap (λ x. x - 1) first_out }

    pub edge_out : g ≤ edges (entry nets l.to)
    edge_out = omega (arith, (hands.laid.listed.numbered 0 first_edge).to_last, first_out)

  -- A step of a listing, on checked blocks.
  module _ (nets : List Net) (lays : Lays) (out : List (List ℕ)) (o : Option Standing) (l : Standing) (stood : o ≡ Some l) (checked : AllChecked nets) (h : Going nets lays out o) where
    abbrev a : Net
    a = entry nets lays.from

    abbrev b : Net
    b = entry nets lays.to

    abbrev images : List ℕ
    images = h.so_far.images

    stands : AsLeft lays images (length out) l
    stands = h.left l stood

    -- an image in the list is one for the call
    image_to : (x : ℕ) → x ∈ images → Image label same nets l (x + 1)
    image_to x i =
        let back : x + 1 - 1 ≡ x = omega arith in
        rw (stands.from_is, stands.to_is, back) (h.so_far.all.carried x i)

    -- where no image is left, all are out
    pub all_out : (before after : Buffers) (count : ℕ) → Ends label same nets l before after count → (length out ≡ length images) × (count ≡ length images)
    all_out before after count ends =
        let all : length out ≡ length images = split_all images (length out) l.place stands.split (λ x i le.
        let c = h.so_far.all.carried x i in
        let lt : x < edges b = rw c.image at (c.pairing.matches.within 0 (first_within a (checked lays.from h.from_known))) in
        let to_last : x + 1 ≤ edges (entry nets l.to) = rw stands.to_is (omega arith) in
        ends.none (x + 1) (omega arith) to_last (image_to x i)) in
        (all, ends.count_is ∙ (stands.count_is ∙ all))

    module _ (before after : Buffers) (g : ℕ) (moved : Standing) (hands : HandsOut label same nets l before after g moved) where
      abbrev way : List ℕ
      way = take (edges a) after.images

      laid : Laid label same a b way
      laid = rw (stands.from_is, stands.to_is) at hands.laid

      way_first : at way 0 ≡ g
      way_first = rw stands.from_is at (first_out nets checked l before after g moved hands)

      in_list : (g - 1) ∈ images
      in_list = listed label same a b images h.so_far.all (g - 1) (rw (stands.from_is, stands.to_is) at (image_out nets checked l before after g moved hands))

      far : l.place ≤ g - 1
      far = omega (arith, hands.beyond)

      lowest : (x : ℕ) → x ∈ images → l.place ≤ x → x < g - 1 → ⊥
      lowest x i le lt = hands.lowest (x + 1) (omega arith) (omega arith) (image_to x i)

      pub some_left : length out < length images
      some_left = next_within images (length out) l.place stands.split h.so_far.all.rising (g - 1) in_list far lowest

      image_is : at images (length out) ≡ g - 1
      image_is = next_is images (length out) l.place stands.split h.so_far.all.rising (g - 1) in_list far lowest

      firsts_on : map (λ w. at w 0) (out ++ (way ∷ [])) ≡ map (λ x. x + 1) (take (length (out ++ (way ∷ []))) images)
      firsts_on =
          let first : at way 0 ≡ at images (length out) + 1 = omega (arith, way_first, image_is, hands.beyond) in
          let there = map_push (λ w. at w 0) out way in
          let here = map_more (λ x. x + 1) images (length out) 0 some_left in
          rw (length_push out way) (there ∙ (rw (first, h.so_far.firsts) (sym here)))

      pub going_on : Going nets lays (out ++ (way ∷ [])) (Some moved)
      going_on =
          let more : length (out ++ (way ∷ [])) ≡ length out + 1 = length_push out way in
          let up : g - 1 + 1 ≡ g = omega (arith, hands.beyond) in
          record {
            from_known = h.from_known;
            to_known = h.to_known;
            so_far = record {
              images = images;
              all = h.so_far.all;
              pairings = All-push (Laid label same a b) out way h.so_far.pairings laid;
              firsts = firsts_on;
            };
            left = λ k is.
                let next : Standing = record { from = l.from; to = l.to; place = g; count = l.count + 1 } in
                let is_next : next ≡ k = sym hands.stands ∙ (cc) in
                subst (AsLeft lays images (length (out ++ (way ∷ [])))) is_next (record {
                  from_is = stands.from_is;
                  to_is = stands.to_is;
                  count_is = omega (arith, stands.count_is);
                  split = rw (← more, up) at (split_next images (length out) l.place stands.split h.so_far.all.rising (g - 1) in_list far lowest);
                });
          }
