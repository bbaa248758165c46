-- Points in buckets: those of one bucket are linked, each to the last before it.
use Rattle.std.specs.Prelude.{◌≡◌, ℕ, ◌+◌, ◌*◌, ◌%◌, ◌<◌, List, ℤ, pos, ◌+ℤ◌, ◌≢◌, Option, None, MatchOption, slice_index_or, unsigned_abs}
use Rattle.solid.specs.declared.Point.{Point}
use Rattle.drawing.specs.Nets.{no_point}

-- a coordinate, counted from the lowest
abbrev pub lifted : ℤ → ℕ
lifted c = unsigned_abs (c +ℤ pos 8000)

abbrev pub bucket_of : Point → ℕ
bucket_of p = (lifted p.x + 40 * lifted p.y + 94 * lifted p.z) % 251

-- the bucket of the point at an index
abbrev pub bucket_at : List Point → ℕ → ℕ
bucket_at ps q = bucket_of (slice_index_or ps q no_point)

-- The last point of the bucket b before the point p is r.
pub record IsLast (ps : List Point) (p b r : ℕ) : Type 0 where
  pub before : r < p
  pub there : bucket_at ps r ≡ b
  pub between : (q : ℕ) → r < q → q < p → bucket_at ps q ≢ b

-- The last point of the bucket b before the point p, or that there is none.
abbrev pub Last : List Point → (p b : ℕ) → Option ℕ → Type 0
Last ps p b last = MatchOption last ((q : ℕ) → q < p → bucket_at ps q ≢ b) (IsLast ps p b)

-- what stands at an index, if anything
abbrev pub entry : List (Option ℕ) → ℕ → Option ℕ
entry entries k = slice_index_or entries k None

-- Each of the first n points is linked to the last of its bucket before it.
abbrev pub LinkedTo : List Point → ℕ → List (Option ℕ) → Type 0
LinkedTo ps n links = (q : ℕ) → q < n → Last ps q (bucket_at ps q) (entry links q)

-- The last of each bucket among the first n points.
abbrev pub Heads : List Point → ℕ → List (Option ℕ) → Type 0
Heads ps n heads = (b : ℕ) → b < 251 → Last ps n b (entry heads b)
