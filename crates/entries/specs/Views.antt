-- The entries that a register has.
use Rattle.std.specs.Prelude.{◌≡◌, ℕ, ◌+◌, ◌<◌, List, [], ◌∷◌, ◌++◌, length, take, Some, None, Option, ◌≢◌, slice_set}
use Rattle.entries.specs.declared.record.Entry.{Entry}
use Rattle.entries.specs.declared.register.Register.{Register}
use Rattle.entries.specs.Chains.{record_at, with_next}

abbrev pub entries_of : Register → List Entry
entries_of r = take r.count r.all

-- The last entry whose family begins with f.
pub record IsLast (es : List Entry) (f k : ℕ) : Type 0 where
  pub within : k < length es
  pub of_family : (record_at es k).first ≡ f
  pub last : (j : ℕ) → k < j → j < length es → (record_at es j).first ≢ f

abbrev pub LastOf : List Entry → ℕ → Option ℕ → Type 0
LastOf es f (Some k) = IsLast es f k
LastOf es f None = (j : ℕ) → j < length es → (record_at es j).first ≢ f

-- the entries, with one more that begins a family
abbrev pub begun : List Entry → ℕ → ℕ → List Entry
begun es start edges = es ++ (record { start = start; edges = edges; first = length es + 1; next = 0 } ∷ [])

-- the entries, with one more behind the entry l, whose next it is
abbrev pub joined : List Entry → ℕ → ℕ → ℕ → List Entry
joined es start edges l = slice_set es l (with_next (record_at es l) (length es + 1)) ++ (record { start = start; edges = edges; first = (record_at es l).first; next = 0 } ∷ [])

-- An entry is added to the end of the family that begins with the entry of index k; where none is of it, it begins a family ..
pub data AddedTo (es : List Entry) (start edges k : ℕ) (after : List Entry) : Type 0 where
  joins : (l : ℕ) → IsLast es (k + 1) l → after ≡ joined es start edges l → AddedTo es start edges k after
  begins : ((j : ℕ) → j < length es → (record_at es j).first ≢ k + 1) → after ≡ begun es start edges → AddedTo es start edges k after

-- .. and without a family it begins one.
abbrev pub Added : List Entry → ℕ → ℕ → Option ℕ → List Entry → Type 0
Added es start edges (Some k) after = AddedTo es start edges k after
Added es start edges None after = after ≡ begun es start edges
