-- Types that have room for sums.
use Rattle.std.specs.Prelude.{ℕ, ℤ, pos, ◌*◌, ◌<◌, ◌≤◌, FitsSigned, List, length, slice_index_or, unsigned_abs}
use Rattle.std.specs.Int.{Width}

-- no number has a magnitude beyond a bound
abbrev pub AreWithin : ℕ → List ℤ → Type 0
AreWithin bound zs = (k : ℕ) → k < length zs → unsigned_abs (slice_index_or zs k (pos 0)) ≤ bound

-- a type has room for the sum of so many of these numbers, in whatever order they are added
pub record HaveRoom (w : Width) (zs : List ℤ) (count : ℕ) : Type 0 where
  pub bound : ℕ
  pub within : AreWithin bound zs
  pub fits : (z : ℤ) → unsigned_abs z ≤ count * bound → FitsSigned w z
