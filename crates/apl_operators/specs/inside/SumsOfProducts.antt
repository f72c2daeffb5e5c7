-- Sums of products along a row of one list of numbers and a column of another, however large.
use Rattle.std.specs.Prelude.{◌≡◌, ◌<◌, ◌≤◌, ◌+◌, ◌-◌, ◌*◌, ◌^◌, ◌*ℤ◌, ◌+ℤ◌, ℕ, ℤ, pos, FitsSigned, unsigned_abs}
use Rattle.std.specs.Prelude.{List, map, length, slice_index_or}
use Rattle.std.specs.Int.{Width, w64}
use Rattle.std.specs.List.{range_with_len, slice_range}
use Rattle.apl_folds.specs.inside.Sums.{total}
use Rattle.apl_operators.specs.declared.joint.Joint.{Joint}
use Rattle.apl_operators.specs.inside.Tables.{AreRows}

-- the product of the k-th number and the k-th one of a column of a table that is so wide
abbrev pub product_of : List ℤ → List ℤ → ℕ → ℕ → ℕ → ℤ
product_of xs ys width column k = slice_index_or xs k (pos 0) *ℤ slice_index_or ys (k * width + column) (pos 0)

-- the sum of those from one on, of so many
abbrev pub sum_from : (ℕ → ℤ) → ℕ → ℕ → ℤ
sum_from p k count = total (map p (range_with_len k (count - k)))

-- a number is the sum and the product, where numbers of so many bits hold these
abbrev pub IsMore : Width → ℤ → ℤ → ℤ → ℤ → Type 0
IsMore w x y sum next = FitsSigned w64 (x *ℤ y) → FitsSigned w (x *ℤ y +ℤ sum) → next ≡ x *ℤ y +ℤ sum

-- no number has a magnitude beyond a bound
abbrev pub AreWithin : ℕ → List ℤ → Type 0
AreWithin bound zs = (k : ℕ) → k < length zs → unsigned_abs (slice_index_or zs k (pos 0)) ≤ bound

-- numbers of so many bits hold the sum of so many products of a number of each list, in whatever order they are added
pub record FitTogether (w : Width) (xs ys : List ℤ) (count : ℕ) : Type 0 where
  pub bound : ℕ
  pub fits : count * bound < 2 ^ 63
  pub held : FitsSigned w (pos (count * bound))
  pub each : (i k : ℕ) → unsigned_abs (slice_index_or xs i (pos 0)) * unsigned_abs (slice_index_or ys k (pos 0)) ≤ bound

-- the sums of the products of so many numbers, from one on, with those of each column of a table that is so wide are known
abbrev pub AreRowSums : List ℤ → List ℤ → ℕ → ℕ → ℕ → List ℤ → Type 0
AreRowSums xs ys width count k sums = (q : ℕ) → q < width → slice_index_or sums q (pos 0) ≡ sum_from (product_of xs ys width q) k count

-- a row of a table
abbrev pub row_in : List ℤ → Joint → ℕ → List ℤ
row_in xs j r = slice_range xs (r * j.joined) (r * j.joined + j.joined)

-- the sums of so many rows of one table and each column of another are known
abbrev pub AreSums : List ℤ → List ℤ → Joint → ℕ → List ℤ → Type 0
AreSums xs ys j done sums = AreRows (λ r q z. z ≡ sum_from (product_of (row_in xs j r) ys j.columns q) 0 j.joined) j.columns done sums
