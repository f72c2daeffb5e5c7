-- The index origin and its number.
use Rattle.std.specs.Prelude.{ℕ, ◌==◌, cond, Option, None, Some}
use Rattle.apl_arrays.specs.declared.origin.Origin.{Origin}
use Rattle.apl_arrays.specs.declared.origin.Origin.TheVariants.{Zero, One}

-- what counts the first element along an axis
abbrev pub origin_number : Origin → ℕ
origin_number Zero = 0
origin_number One = 1

-- the origin that a number names, if it names one
abbrev pub origin_of : ℕ → Option Origin
origin_of n = cond (n == 0) (Some Zero) (cond (n == 1) (Some One) None)
