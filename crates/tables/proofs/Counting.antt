-- A walk that has met each of n corners, and no other, has met n.
use Rattle.std.proofs.Common.{◌≡◌, ℕ, zero, suc, ◌+◌, ◌<◌, ◌≤◌, List, [], ◌∷◌, length, Option, None, Some, refl, arith}
use Rattle.std.specs.Option.{IsSome}
use Rattle.std.proofs.lemmas.List.Sums.{sum_by-cons}
use Rattle.std.proofs.lemmas.Bool.{false≢true}
use Rattle.drawing.specs.declared.record.Corner.{Corner}
use Rattle.drawing.specs.declared.record.Face.{Face}
use Rattle.drawing.proofs.Following.{each_within}
use Rattle.tables.specs.declared.walk.Walk.{Walk}
use Rattle.tables.specs.Steps.{home_of, lacks, unmet, Housed}
use Rattle.tables.specs.Walks.{WalkedAll}
use Rattle.tables.proofs.Meeting.{seen}

-- the first n have a home, and the others none
unmet_beyond : (home : List (Option ℕ)) (n : ℕ) → n ≤ length home → ((k : ℕ) → k < n → IsSome (home_of home k)) → ((k : ℕ) → n ≤ k → IsSome (home_of home k) → ⊥) → unmet home + n ≡ length home
unmet_beyond [] n le some none = omega arith
unmet_beyond (None ∷ home) zero le some none =
    let more = unmet_beyond home zero (omega arith) (λ k lt. absurd (omega arith)) (λ k le. none (suc k) (omega arith)) in
    omega (arith, sum_by-cons lacks None home)
unmet_beyond (Some h ∷ home) zero le some none = absurd (none 0 (omega arith) refl)
unmet_beyond (None ∷ home) (suc n) le some none = absurd (false≢true (some 0 (omega arith)))
unmet_beyond (Some h ∷ home) (suc n) le some none =
    let more = unmet_beyond home n (omega arith) (λ k lt. some (suc k) (omega arith)) (λ k le. none (suc k) (omega arith)) in
    omega (arith, sum_by-cons lacks (Some h) home)

pub met_is : (cs : List Corner) (fs : List Face) (w : Walk) (homes : List ℕ) → length cs ≤ 480 → WalkedAll cs fs w → Housed (length cs) w.home homes → length w.order.items ≡ length cs
met_is cs fs w homes few a housed =
    let s = w.steady in
    let count = unmet_beyond w.home (length cs) (omega (arith, s.size))
    (λ k lt. rw (housed.each k lt) refl)
    (λ k le some. let inside = each_within cs fs a.rounds k a.drawn.chains (rw a.order_is at (seen _ _ s k some)) in omega arith) in
    omega (arith, s.room, s.size)
