-- Functions whose folds are the same from either end.
use Rattle.std.specs.Prelude.{◌≡◌, ℤ, Result}
use Rattle.apl_faults.specs.declared.fault.Fault.{Fault}
use Rattle.apl_arrays.specs.Results.{and_then}

-- the first two of three numbers may be taken together first, or the last two: the value is the same, and so is the fault
abbrev pub IsAssociative : (ℤ → ℤ → Result ℤ Fault) → Type 0
IsAssociative f = (x y z : ℤ) → and_then (f x y) (λ v. f v z) ≡ and_then (f y z) (λ v. f x v)
