-- Numbers turned to their complements, and which of them are small.
use Rattle.std.specs.Prelude.{◌<◌, ◌≤ℤ◌, ◌<ℤ◌, ◌^◌, ℕ, ℤ, pos, negsuc}

-- the number itself, or the complement of a negative one
abbrev pub turned : ℤ → ℕ
turned (pos n) = n
turned (negsuc n) = n

-- the divisor is positive, and both numbers have 32 bits
abbrev pub IsSmall : ℤ → ℤ → Type 0
IsSmall x y = (pos 0 <ℤ x) × (x ≤ℤ pos (2 ^ 31)) × (turned y < 2 ^ 31)

-- the same at each place below n
abbrev pub AreSmall : (ℕ → ℤ) → (ℕ → ℤ) → ℕ → Type 0
AreSmall x y n = (k : ℕ) → k < n → IsSmall (x k) (y k)
