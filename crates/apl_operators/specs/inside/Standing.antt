-- Numbers that stand for the elements of two arrays under a function.
-- A product of the numbers is that of the elements, as `Products` has it.
use Rattle.std.specs.Prelude.{◌≡◌, ◌<◌, ℕ, ℤ, pos, Bool, nat_eq, List, length, slice_index_or, Option, None, Some, Err}
use Rattle.apl_faults.specs.declared.fault.Fault.TheVariants.{Domain}
use Rattle.apl_arrays.specs.Cells.{Items, cells_of}
use Rattle.apl_arrays.specs.Numbers.{typed_items}
use Rattle.apl_scalar.specs.declared.function.Dyadic.{Dyadic}
use Rattle.apl_scalar.specs.Extension.{compared}
use Rattle.apl_scalar.specs.Functions.{dyadic_of}
use Rattle.apl_operators.specs.Places.{cells_met}
use Rattle.apl_operators.specs.declared.standing.StandIns.{StandIns}

-- a function of characters is that of their codes
abbrev pub TakesCodes : Dyadic → Type 0
TakesCodes g = (c d : ℕ) → compared g (nat_eq c d) ≡ dyadic_of g (pos c) (pos d)

-- a function has no value for characters
abbrev pub RefusesCharacters : Dyadic → Type 0
RefusesCharacters g = (same : Bool) → compared g same ≡ Err Domain

-- a function of two elements is the same function of the numbers at their places
pub record Stand (g : Dyadic) (a b : Items) (xs ys : List ℤ) : Type 0 where
  pub left : length xs ≡ length (cells_of a)
  pub right : length ys ≡ length (cells_of b)
  pub values : (i j : ℕ) → i < length xs → j < length ys →
      cells_met g a b i j ≡ dyadic_of g (slice_index_or xs i (pos 0)) (slice_index_or ys j (pos 0))

-- these numbers stand for the elements, or each pair of elements is a domain fault
abbrev pub StandOrFail : Dyadic → Items → Items → Option StandIns → Type 0
StandOrFail g a b (Some found) = Stand g a b (typed_items found.left) (typed_items found.right)
StandOrFail g a b None = (i j : ℕ) → i < length (cells_of a) → j < length (cells_of b) → cells_met g a b i j ≡ Err Domain
