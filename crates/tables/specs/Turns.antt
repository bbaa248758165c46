-- Turning about a point: from an edge that leaves it to the next edge of its opposite, which leaves it too.
use Rattle.std.specs.Prelude.{◌≡◌, ℕ, zero, suc, ◌<◌, Bool, true, ◌⊎◌, List, length}
use Rattle.drawing.specs.Lists.{at}
use Rattle.tables.specs.Marked.{mark}

-- the edge that one turn leads to
abbrev pub turn_of : (next opposite : List ℕ) → ℕ → ℕ
turn_of next opposite e = at next (at opposite e)

-- what f leads to in k steps
abbrev pub times : (ℕ → ℕ) → ℕ → ℕ → ℕ
times f zero e = e
times f (suc k) e = f (times f k e)

-- Below n, f leads from different numbers to different ones.
pub record Permutes (n : ℕ) (f : ℕ → ℕ) : Type 0 where
  pub within : (e : ℕ) → e < n → f e < n
  pub once : (d e : ℕ) → d < n → e < n → f d ≡ f e → d ≡ e

-- The marks before, and those of all that f leads to from the first on, and back to it.
pub record Rounded (f : ℕ → ℕ) (first : ℕ) (before after : List Bool) : Type 0 where
  pub stays : (e : ℕ) → mark before e ≡ true → mark after e ≡ true
  pub goes : (k : ℕ) → mark after (times f k first) ≡ true
  pub only : (e : ℕ) → mark after e ≡ true → (mark before e ≡ true) ⊎ ((k : ℕ) × (times f k first ≡ e))
  pub period : ℕ
  pub positive : 0 < period
  pub comes_back : times f period first ≡ first

-- Of the edges that leave a point, those are marked that turning leads to from one of them.
pub record Turned (starts next opposite : List ℕ) (marks : List Bool) : Type 0 where
  pub size : length marks ≡ 480
  pub closed : (e : ℕ) → mark marks e ≡ true → mark marks (turn_of next opposite e) ≡ true
  pub joined : (d e : ℕ) → mark marks d ≡ true → mark marks e ≡ true → at starts d ≡ at starts e → (k : ℕ) × (times (turn_of next opposite) k d ≡ e)
  pub some : (e : ℕ) → e < length starts → (d : ℕ) × (d < length starts) × (at starts d ≡ at starts e) × (mark marks d ≡ true)

-- Each edge that leaves the point q is marked.
abbrev pub AllMarked : (starts : List ℕ) (marks : List Bool) → ℕ → Type 0
AllMarked starts marks q = (e : ℕ) → e < length starts → at starts e ≡ q → mark marks e ≡ true
