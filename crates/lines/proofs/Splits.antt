-- Words are split off one by one.
use Rattle.std.proofs.Common.{◌≡◌, ℕ, ◌<◌, true, false, not, List, [], ◌∷◌, length, take, drop, Some, None, refl, sym, ap, ◌∙◌, ⊎_elim, one-add, arith, ltb}
use Rattle.std.specs.List.{position, position_or_len, prefix_len, slice_split, filter}
use Rattle.std.proofs.lemmas.Bool.{cases_Bool, ltb-true}
use Rattle.std.proofs.lemmas.Bool.Decides.{nat_tests}
use Rattle.std.proofs.lemmas.Option.{cond_some}
use Rattle.lines.specs.Words.{blank, filled, words}

-- how many blanks stand in front
abbrev blanks : List ℕ → ℕ
blanks bs = position_or_len (λ b. not (blank b)) bs

-- how many bytes stand before the first blank
abbrev letters : List ℕ → ℕ
letters bs = prefix_len (λ b. not (blank b)) bs

-- those bytes are the first piece, and what follows them has the words of the other pieces
record First (bs : List ℕ) (n : ℕ) : Type 0 where
  rest : List (List ℕ)
  cut : slice_split blank bs ≡ take n bs ∷ rest
  after : filter filled rest ≡ words (drop n bs)

first : (bs : List ℕ) → First bs (letters bs)
first [] = record { rest = []; cut = refl; after = refl }
first (b ∷ bs) =
    ⊎_elim
    (λ (e : blank b ≡ true). record { rest = slice_split blank bs; cut = rw e refl; after = rw (e, e) refl })
    (λ (e : blank b ≡ false).
    let f = first bs in
    record { rest = f.rest; cut = rw (e, one-add, f.cut) refl; after = rw (e, one-add) f.after })
    (cases_Bool (blank b))

-- the first word ends at the next blank, and what follows it has the others
after_blanks : (bs text : List ℕ) → blanks bs < length bs → text ≡ drop (blanks bs) bs → words bs ≡ take (letters text) text ∷ words (drop (letters text) text)
after_blanks [] text h t = absurd (omega (arith, h))
after_blanks (b ∷ bs) text h t =
    ⊎_elim
    (λ (e : blank b ≡ true). rw e (after_blanks bs text (let g = rw e at h in omega (arith, g)) (t ∙ rw (e, one-add) refl)))
    (λ (e : blank b ≡ false).
    let f = first bs in
    rw (t, e, f.cut, one-add) (rw e (ap (λ ws. (b ∷ take (letters bs) bs) ∷ ws) f.after)))
    (cases_Bool (blank b))

pub first_word : (bs text : List ℕ) (i : ℕ) → position (λ b. not (blank b)) bs ≡ Some i → text ≡ drop i bs → words bs ≡ take (letters text) text ∷ words (drop (letters text) text)
first_word bs text i e t =
    let found = cond_some (ltb (blanks bs) (length bs)) (blanks bs) i e in
    after_blanks bs text (ltb-true (blanks bs) (length bs) found.0) (t ∙ ap (λ n. drop n bs) (sym found.1))

-- no word where there are only blanks
pub no_words : (bs : List ℕ) → position (λ b. not (blank b)) bs ≡ None → words bs ≡ []
no_words [] e = refl
no_words (b ∷ bs) e = grind (arith, nat_tests, no_words bs)
