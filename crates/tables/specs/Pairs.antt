-- The table of ordered pairs of points: which edge runs from the one to the other.
use Rattle.std.specs.Prelude.{◌≡◌, ℕ, zero, suc, ◌+◌, ◌*◌, ◌<◌, ◌≤◌, nat_lt, cond, List, length, Option, None, Some}
use Rattle.drawing.specs.Lists.{at}
use Rattle.drawing.specs.Nets.{Runs, Matched}

-- Which edges a pair has.
pub data Between : Type 0 where
  Nothing : Between
  One : ℕ → Between
  Several : Between

-- what an entry stands for: 0 for nothing, 481 for several edges, and else the number of the one
abbrev pub between : ℕ → Between
between zero = Nothing
between (suc e) = cond (nat_lt e 480) (One e) Several

-- the edge that has its pair alone
abbrev pub alone : Between → Option ℕ
alone Nothing = None
alone (One e) = Some e
alone Several = None

-- Of n edges, v alone has the property.
pub record Alone (n : ℕ) (P : ℕ → Type 0) (v : ℕ) : Type 0 where
  pub within : v < n
  pub has : P v
  pub only : (e : ℕ) → e < n → P e → e ≡ v

-- What it says of the first n edges: that none has the property, which alone has it, or that several have it.
abbrev pub Tally : (n : ℕ) (P : ℕ → Type 0) → Between → Type 0
Tally n P Nothing = (e : ℕ) → e < n → P e → ⊥
Tally n P (One v) = Alone n P v
Tally n P Several = (k : ℕ) → ((e : ℕ) → e < n → P e → e ≡ k) → ⊥

-- which edges the pair at an index has
abbrev pub between_at : List ℕ → ℕ → Between
between_at table k = between (at table k)

-- The table of the first n edges: the pair of the points a and b stands at a * 160 + b.
pub record Tallied (starts next : List ℕ) (n : ℕ) (table : List ℕ) : Type 0 where
  pub size : length table ≡ 25600
  pub each : (a b : ℕ) → a < 160 → b < 160 → Tally n (Runs starts next a b) (between_at table (a * 160 + b))

-- Starts are points, of which there are at most 160, and next edges are edges.
pub record Bounded (starts next : List ℕ) : Type 0 where
  pub few : length starts ≤ 480
  pub next_size : length next ≡ length starts
  pub start_within : (e : ℕ) → e < length starts → at starts e < 160
  pub next_within : (e : ℕ) → e < length starts → at next e < length starts

-- The edge f runs between the ends of e the other way, and both are the only ones.
pub record Faces (starts next : List ℕ) (e f : ℕ) : Type 0 where
  pub matched : Matched starts next e
  pub within : f < length starts
  pub runs : Runs starts next (at starts (at next e)) (at starts e) f
