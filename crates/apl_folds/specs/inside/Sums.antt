-- Sums of numbers without bounds, and of their magnitudes.
-- Where no partial sum leaves the numbers of 64 bits, their sum is the fold by addition of `Folds`.
use Rattle.std.specs.Prelude.{◌+◌, ◌^◌, ◌<◌, ◌+ℤ◌, ℕ, ℤ, pos, List, [], ◌∷◌, Result, FitsSigned, unsigned_abs}
use Rattle.std.specs.Int.{Width}
use Rattle.apl_faults.specs.declared.fault.Fault.{Fault}
use Rattle.apl_scalar.specs.declared.function.Dyadic.TheVariants as two
use Rattle.apl_scalar.specs.Functions.{dyadic_of}
use Rattle.apl_folds.specs.Lines.{fold_by}

-- the fold of one or more numbers by addition, each step tested
abbrev pub sum_of : List ℤ → Result ℤ Fault
sum_of xs = fold_by (dyadic_of two.Plus) xs

-- the sum of numbers, however large
abbrev pub total : List ℤ → ℤ
total [] = pos 0
total (x ∷ xs) = x +ℤ total xs

-- the sum of their magnitudes, however large
abbrev pub magnitudes : List ℤ → ℕ
magnitudes [] = 0
magnitudes (x ∷ xs) = unsigned_abs x + magnitudes xs

-- a type has room for the sum of these numbers, and it is the fold, in whatever order they are added
pub record HasRoom (w : Width) (xs : List ℤ) : Type 0 where
  pub sum : FitsSigned w (total xs)
  pub magnitudes : magnitudes xs < 2 ^ 63
