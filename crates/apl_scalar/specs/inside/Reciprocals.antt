-- Division by one number for many.
use Rattle.std.specs.Prelude.{◌≡◌, ◌≤◌, ◌<◌, ◌+◌, ◌*◌, ◌/◌, ◌%◌, ◌^◌, ℕ, ℤ, pos, List, length, slice_index_or, Ok}
use Rattle.apl_scalar.specs.declared.exact_quotients.Inverse.{Inverse}
use Rattle.apl_scalar.specs.Functions.{residue, quotient}

-- the product of a reciprocal and its divisor is 2 ^ 64, or short of it by no more than the divisor
abbrev pub IsBelowReciprocal : ℕ → ℕ → Type 0
IsBelowReciprocal d m = (m * d ≤ 2 ^ 64) × (2 ^ 64 ≤ m * d + d)

-- the divisor is an odd number shifted to the left, whose product with the inverse ends in 64 bits that make 1; and no quotient below the
-- half leaves the range with it
pub record Divides (d : ℕ) (by : Inverse) : Type 0 where
  pub inverse : by.inverse * (d / 2 ^ by.shift) % 2 ^ 64 ≡ 1
  pub whole : d / 2 ^ by.shift * 2 ^ by.shift ≡ d
  pub some : 0 < d
  pub shift : by.shift < 64
  pub half : by.half * d < 2 ^ 63
  pub reach : by.half * 2 ^ by.shift ≡ by.reach

-- each number is what is left of that for its place
abbrev pub AreLeft : ℕ → (ℕ → ℤ) → List ℤ → Type 0
AreLeft d y zs = (k : ℕ) → k < length zs → slice_index_or zs k (pos 0) ≡ residue (pos d) (y k)

-- each number is the exact quotient of that for its place
abbrev pub AreQuotients : ℕ → (ℕ → ℤ) → List ℤ → Type 0
AreQuotients d x zs = (k : ℕ) → k < length zs → quotient (x k) (pos d) ≡ Ok (slice_index_or zs k (pos 0))
