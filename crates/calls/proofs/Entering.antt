-- The entries of a catalogue stay as more are entered.
use Rattle.std.proofs.Common.{◌≡◌, ℕ, ◌-◌, ◌<◌, ◌⊎◌, List, [], ◌∷◌, ◌++◌, length, sym, ◌∙◌, subst, inl, inr, arith, length-append}
use Rattle.std.proofs.lemmas.List.{get_or_append_left, get_or_push, length_push}
use Rattle.std.proofs.lemmas.Bool.{cases_lt}
use Rattle.drawing.specs.Nets.{Net}
use Rattle.drawing.specs.Verdicts.{Tables}
use Rattle.drawing.specs.declared.fault.Cause.TheVariants.{UnmatchedEdge}
use Rattle.drawing.proofs.Linking.{edge_count}
use Rattle.drawing.proofs.Judgement.{drawn_once}
use Rattle.block.specs.Checked.{Checked}
use Rattle.calls.specs.declared.refusal.Refusal.{Refusal}
use Rattle.calls.specs.Entries.{no_net, entry, Known, Room, Accepted, TurnedAway}
use Rattle.calls.specs.Answers.{Rejected, drawing, full}
use Rattle.calls.specs.Rows.{Event, entered, opened, stepped, strayed, kin, part, Enters}

-- the block of each entry is checked
abbrev pub AllChecked : List Net → Type 0
AllChecked nets = (i : ℕ) → Known nets i → Checked (entry nets i)

pub known_stays : (nets new : List Net) (i : ℕ) → Known nets i → Known (nets ++ new) i
known_stays nets new i k = record { from_one = k.from_one; to_last = omega (arith, length-append nets new, k.to_last) }

pub entry_stays : (nets new : List Net) (i : ℕ) → Known nets i → entry (nets ++ new) i ≡ entry nets i
entry_stays nets new i k = get_or_append_left nets new no_net (i - 1) (omega (arith, k.from_one, k.to_last))

-- an entry is an old one, or comes after all of them
pub known_before : (nets new : List Net) (i : ℕ) → Known (nets ++ new) i → Known nets i ⊎ (length nets < i)
known_before nets new i k = elim (cases_lt (length nets) i) [ inl lt ↦ inr lt | inr le ↦ inl (record { from_one = k.from_one; to_last = le }) ]

pub checked_push : (nets : List Net) (m : Net) → AllChecked nets → Checked m → AllChecked (nets ++ (m ∷ []))
checked_push nets m all c i k = elim (known_before nets (m ∷ []) i k) [
  | inl old ↦ subst Checked (sym (entry_stays nets (m ∷ []) i old)) (all i old)
  | inr new ↦ subst Checked (sym (get_or_push nets m no_net (i - 1) (omega (arith, length_push nets m, k.to_last)))) c
]

pub turned_away : (capacity : ℕ) (nets : List Net) (t : Tables) (f : Refusal) → Rejected capacity nets t f → TurnedAway capacity nets t
turned_away capacity nets t f (drawing fault refused is) sound room = sound fault.cause fault.place refused.fails
turned_away capacity nets t f (full sound out is) s room = out room

-- one list of calls after another
pub enters_on : (capacity : ℕ) (a b c : List Net) (es fs : List Event) → Enters capacity a es b → Enters capacity b fs c → Enters capacity a (es ++ fs) c
enters_on capacity a b c [] fs p q = rw p q
enters_on capacity a b c (entered t r ∷ es) fs (inl p) q = inl (p.0, p.1, enters_on capacity (a ++ (p.0 ∷ [])) b c es fs p.2 q)
enters_on capacity a b c (entered t r ∷ es) fs (inr p) q = inr (p.0, enters_on capacity a b c es fs p.1 q)
enters_on capacity a b c (opened i j r ∷ es) fs p q = enters_on capacity a b c es fs p q
enters_on capacity a b c (stepped k u r v ∷ es) fs p q = enters_on capacity a b c es fs p q
enters_on capacity a b c (strayed l u r v ∷ es) fs p q = enters_on capacity a b c es fs p q
enters_on capacity a b c (kin i r ∷ es) fs p q = enters_on capacity a b c es fs p q
enters_on capacity a b c (part i e r ∷ es) fs p q = enters_on capacity a b c es fs p q

-- ---- there is one list of entries

pub accepted_once : (capacity : ℕ) (nets : List Net) (t : Tables) (m n : Net) → Accepted capacity nets t m → Accepted capacity nets t n → n ≡ m
accepted_once capacity nets t m n a b = drawn_once t (a.sound UnmatchedEdge) m n a.draws b.draws

pub accepted_or_not : (capacity : ℕ) (nets : List Net) (t : Tables) (m : Net) → Accepted capacity nets t m → TurnedAway capacity nets t → ⊥
accepted_or_not capacity nets t m a away = away a.sound (subst (Room capacity nets) (edge_count t m a.draws) a.room)

pub enters_once : (capacity : ℕ) (a b c : List Net) (es : List Event) → Enters capacity a es b → Enters capacity a es c → b ≡ c
enters_once capacity a b c [] p q = sym p ∙ q
enters_once capacity a b c (entered t r ∷ es) (inl p) (inl q) =
    enters_once capacity (a ++ (p.0 ∷ [])) b c es p.2 (rw (accepted_once capacity a t p.0 q.0 p.1 q.1) at q.2)
enters_once capacity a b c (entered t r ∷ es) (inl p) (inr q) = absurd (accepted_or_not capacity a t p.0 p.1 q.0)
enters_once capacity a b c (entered t r ∷ es) (inr p) (inl q) = absurd (accepted_or_not capacity a t q.0 q.1 p.0)
enters_once capacity a b c (entered t r ∷ es) (inr p) (inr q) = enters_once capacity a b c es p.1 q.1
enters_once capacity a b c (opened i j r ∷ es) p q = enters_once capacity a b c es p q
enters_once capacity a b c (stepped k u r v ∷ es) p q = enters_once capacity a b c es p q
enters_once capacity a b c (strayed l u r v ∷ es) p q = enters_once capacity a b c es p q
enters_once capacity a b c (kin i r ∷ es) p q = enters_once capacity a b c es p q
enters_once capacity a b c (part i e r ∷ es) p q = enters_once capacity a b c es p q
