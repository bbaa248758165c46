-- What is read of a word is the value that the word writes.
use Rattle.std.proofs.Common.{◌≡◌, ℕ, suc, ◌^◌, ◌<◌, ◌≤◌, true, false, eqb, List, [], ◌∷◌, length, ℤ, pos, neg_ℤ, Some, None, Ok, Err, codes, rules, IsUtf8, Option, Result, refl, ap, ◌∙◌, ⊎_elim, arith, w64}
use Rattle.std.specs.Option.{option_map, ok_or}
use Rattle.std.specs.Result.{result_ok, OkIff}
use Rattle.std.specs.Str.Parse.{digits_value, ParsesUnsigned, ParsesSigned}
use Rattle.std.specs.Str.{IsAscii, all_ascii_digits, bytes_eq}
use Rattle.std.proofs.lemmas.Str.Ascii.{IsAscii-cons}
use Rattle.std.proofs.lemmas.Fmt.{IsAscii-from_digits}
use Rattle.std.proofs.lemmas.Str.Parse.{IsNumeralModel, numerals_by_value, tells_all_ascii_digits, parse_plain, parse_plus, parse_signed_minus, parse_signed_plain, parse_signed_plus}
use Rattle.std.proofs.lemmas.Bool.Decides.{nat_tests}
use Rattle.std.proofs.lemmas.Bool.{cases_Bool, lt-ltb, eqb-true, eqb-false}
use Rattle.std.proofs.lemmas.Str.{IsUtf8-from_ascii}
use Rattle.std.proofs.lemmas.Iterator.Adapters.{option_map_id}
use Rattle.std.proofs.lemmas.Slice.Eq.{bytes_eq-Decides}
use Rattle.lines.specs.Numbers.{decimal, below, unsigned, signed}
use Rattle.lines.specs.Kinds.{kind_of}
use Rattle.lines.specs.declared.kind.KindName.{KindName}
use Rattle.lines.specs.declared.line.Malformed.{Malformed}
use Rattle.lines.specs.declared.line.Malformed.TheVariants as malformed

-- what `gives` reads of a word is the value that the word writes, and a word that is no text writes none
pub record ReadsValues {T E : Type 0} (gives : List ℕ → Result T E → Type 0) (value_of : List ℕ → Option T) : Type 0 where
  pub read : (word : List ℕ) (r : Result T E) → gives word r → result_ok r ≡ value_of word
  pub text : (word : List ℕ) → ¬ (IsUtf8 word) → value_of word ≡ None

own : IsNumeralModel (λ ds. all_ascii_digits ds ≡ true) (digits_value 10)
own = numerals_by_value _ tells_all_ascii_digits

-- the digits ds write a number less than m
abbrev Written : ℕ → List ℕ → Type 0
Written m ds = (all_ascii_digits ds ≡ true) × (0 < length ds) × (digits_value 10 ds < m)

reads : {T E : Type 0} (f : ℕ → T) (m : ℕ) (ds : List ℕ) (r : Result T E) → OkIff r (Written m ds) (f (digits_value 10 ds)) → result_ok r ≡ option_map f (below m (decimal ds))
reads f m [] (Ok x) h = absurd (omega (arith, h.0.1))
reads f m [] (Err d) h = refl
reads f m (c ∷ cs) (Ok x) h = rw (h.0.0, lt-ltb (digits_value 10 (c ∷ cs)) m h.0.2, h.1) refl
reads f m (c ∷ cs) (Err d) h = grind (arith, nat_tests)

pub unsigned_reads : {E : Type 0} (k : ℕ) (bs : List ℕ) (r : Result ℕ E) → ParsesUnsigned k 10 bs r → result_ok r ≡ unsigned (2 ^ k) bs
unsigned_reads k [] r h = reads (λ x. x) (2 ^ k) [] r (parse_plain own k [] r h (λ e. omega (arith, e)))
unsigned_reads k (c ∷ cs) r h =
    ⊎_elim
    (λ (e : eqb c 43 ≡ true). rw e (reads (λ x. x) (2 ^ k) cs r (parse_plus own k (c ∷ cs) r h (eqb-true c 43 e)) ∙ option_map_id _))
    (λ (e : eqb c 43 ≡ false). rw e (reads (λ x. x) (2 ^ k) (c ∷ cs) r (parse_plain own k (c ∷ cs) r h (eqb-false c 43 e)) ∙ option_map_id _))
    (cases_Bool (eqb c 43))

-- the same with a minus in front, where the limit itself is reached
reads_minus : {E : Type 0} (m : ℕ) (ds : List ℕ) (r : Result ℤ E) → OkIff r ((all_ascii_digits ds ≡ true) × (0 < length ds) × (digits_value 10 ds ≤ m)) (neg_ℤ (pos (digits_value 10 ds))) → result_ok r ≡ option_map (λ n. neg_ℤ (pos n)) (below (suc m) (decimal ds))
reads_minus {E} m ds (Ok x) h = reads {E = E} (λ n. neg_ℤ (pos n)) (suc m) ds (Ok x) ((h.0.0, h.0.1, omega (arith, h.0.2)), h.1)
reads_minus m ds (Err d) h = reads (λ n. neg_ℤ (pos n)) (suc m) ds (Err d) (λ w. h (w.0, w.1, omega (arith, w.2)))

signed_plain : {E : Type 0} (c : ℕ) (cs : List ℕ) (r : Result ℤ E) → eqb c 45 ≡ false → ParsesSigned w64 10 (c ∷ cs) r → result_ok r ≡ option_map pos (unsigned (2 ^ 63) (c ∷ cs))
signed_plain c cs r minus h =
    ⊎_elim
    (λ (e : eqb c 43 ≡ true). rw e (reads pos (2 ^ 63) cs r (parse_signed_plus own w64 (c ∷ cs) r h (eqb-true c 43 e))))
    (λ (e : eqb c 43 ≡ false). rw e (reads pos (2 ^ 63) (c ∷ cs) r (parse_signed_plain own w64 (c ∷ cs) r h (eqb-false c 43 e) (eqb-false c 45 minus))))
    (cases_Bool (eqb c 43))

pub signed_reads : {E : Type 0} (bs : List ℕ) (r : Result ℤ E) → ParsesSigned w64 10 bs r → result_ok r ≡ signed (2 ^ 63) bs
signed_reads [] r h = reads pos (2 ^ 63) [] r (parse_signed_plain own w64 [] r h (λ e. omega (arith, e)) (λ e. omega (arith, e)))
signed_reads (c ∷ cs) r h =
    ⊎_elim
    (λ (e : eqb c 45 ≡ true). rw e (reads_minus (2 ^ 63) cs r (parse_signed_minus own w64 (c ∷ cs) r h (eqb-true c 45 e))))
    (λ (e : eqb c 45 ≡ false). rw e (signed_plain c cs r e h))
    (cases_Bool (eqb c 45))

-- digits are ASCII, so a word that is no text writes no number
no_digits : (ds : List ℕ) → ¬ (IsAscii ds) → decimal ds ≡ None
no_digits [] h = refl
no_digits (d ∷ ds) h =
    ⊎_elim
    (λ (e : all_ascii_digits (d ∷ ds) ≡ true). absurd (h (IsAscii-from_digits (d ∷ ds) (own.to (d ∷ ds) e))))
    (λ (e : all_ascii_digits (d ∷ ds) ≡ false). rw e refl)
    (cases_Bool (all_ascii_digits (d ∷ ds)))

no_digits_after : (c : ℕ) (ds : List ℕ) → c < 128 → ¬ (IsUtf8 (c ∷ ds)) → decimal ds ≡ None
no_digits_after c ds small h = no_digits ds (λ a. h (IsUtf8-from_ascii (c ∷ ds) (IsAscii-cons c ds small a)))

pub unsigned_text : (m : ℕ) (bs : List ℕ) → ¬ (IsUtf8 bs) → unsigned m bs ≡ None
unsigned_text m [] h = refl
unsigned_text m (c ∷ cs) h =
    ⊎_elim
    (λ (e : eqb c 43 ≡ true). rw (e, no_digits_after c cs (omega (arith, eqb-true c 43 e)) h) refl)
    (λ (e : eqb c 43 ≡ false). rw (e, no_digits (c ∷ cs) (λ a. h (IsUtf8-from_ascii (c ∷ cs) a))) refl)
    (cases_Bool (eqb c 43))

pub signed_text : (m : ℕ) (bs : List ℕ) → ¬ (IsUtf8 bs) → signed m bs ≡ None
signed_text m [] h = refl
signed_text m (c ∷ cs) h =
    ⊎_elim
    (λ (e : eqb c 45 ≡ true). rw (e, no_digits_after c cs (omega (arith, eqb-true c 45 e)) h) refl)
    (λ (e : eqb c 45 ≡ false). rw e (ap (option_map pos) (unsigned_text m (c ∷ cs) h)))
    (cases_Bool (eqb c 45))

pub kind_reads : (bs : List ℕ) (r : Result KindName Malformed) → r ≡ ok_or (kind_of bs) malformed.LayFields → result_ok r ≡ kind_of bs
kind_reads bs r e = rw e (ok_again (kind_of bs))
  where
    ok_again : (o : Option KindName) → result_ok (ok_or o malformed.LayFields) ≡ o
    ok_again None = refl
    ok_again (Some k) = refl

not_named : (bs name : List ℕ) → IsUtf8 name → ¬ (IsUtf8 bs) → bytes_eq bs name ≡ false
not_named bs name text h =
    ⊎_elim
    (λ (e : bytes_eq bs name ≡ true). let same : bs ≡ name = (bytes_eq-Decides bs name).0 e in absurd (h (rw same text)))
    (λ (e : bytes_eq bs name ≡ false). e)
    (cases_Bool (bytes_eq bs name))

pub kind_text : (bs : List ℕ) → ¬ (IsUtf8 bs) → kind_of bs ≡ None
kind_text bs h =
    rw (not_named bs (codes "measure") (search (rules, IsUtf8-from_ascii)) h, not_named bs (codes "mark") (search (rules, IsUtf8-from_ascii)) h, not_named bs (codes "both") (search (rules, IsUtf8-from_ascii)) h) refl
