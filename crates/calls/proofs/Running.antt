-- Running numbers of edges.
use Rattle.std.proofs.Common.{◌≡◌, ℕ, ◌+◌, ◌-◌, ◌<◌, ◌≤◌, List, ◌++◌, length, get_or, take, ap, inl, inr, arith}
use Rattle.std.proofs.lemmas.List.{take-append-le, take-take}
use Rattle.std.proofs.lemmas.List.Sums.{sum_by_more, sum_by-take-le}
use Rattle.std.proofs.lemmas.Bool.{cases_order}
use Rattle.drawing.specs.Nets.{Net, edges}
use Rattle.calls.specs.Entries.{no_net, entry, Known, Edge, held, running}

-- the edges of the first n entries and of the next one are among those of more entries
pub held_up : (nets : List Net) (n more : ℕ) → n < more → n < length nets → held (take n nets) + edges (get_or nets n no_net) ≤ held (take more nets)
held_up nets n more lt within =
    let upto : take (n + 1) (take more nets) ≡ take (n + 1) nets = take-take (n + 1) more nets (omega arith) in
    omega (arith, sum_by_more edges nets n no_net within, sum_by-take-le edges (take more nets) (n + 1), ap held upto)

-- the edges of an entry are counted before those of later ones
pub running_before : (nets : List Net) (j d k c : ℕ) → Known nets j → Edge (entry nets j) d → 1 ≤ c → j < k → running nets j d < running nets k c
running_before nets j d k c known edge from lt =
    omega (arith, held_up nets (j - 1) (k - 1) (omega (arith, known.from_one)) (omega (arith, known.from_one, known.to_last)), edge.to_last)

-- an edge is told by its running number
pub running_once : (nets : List Net) (j d k c : ℕ) → Known nets j → Edge (entry nets j) d → Known nets k → Edge (entry nets k) c → running nets j d ≡ running nets k c → (j ≡ k) × (d ≡ c)
running_once nets j d k c kj ed kk ec e = elim (cases_order j k) [
  | inl is ↦ (is, let h : held (take (j - 1) nets) ≡ held (take (k - 1) nets) = ap (λ x. held (take (x - 1) nets)) is in omega arith)
  | inr (inl lt) ↦ absurd (omega (arith, running_before nets j d k c kj ed ec.from_one lt))
  | inr (inr gt) ↦ absurd (omega (arith, running_before nets k c j d kk ec ed.from_one gt))
]

pub running_stays : (nets new : List Net) (j d : ℕ) → Known nets j → running (nets ++ new) j d ≡ running nets j d
running_stays nets new j d known = ap (λ xs. held xs + d) (take-append-le (j - 1) nets new (omega (arith, known.to_last)))
