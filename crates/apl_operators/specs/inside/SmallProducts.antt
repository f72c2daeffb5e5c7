-- The products of numbers with others, row by row.
use Rattle.std.specs.Prelude.{◌≡◌, ◌++◌, ℤ, List, Ok}
use Rattle.apl_arrays.specs.Results.{ok_map}
use Rattle.apl_scalar.specs.declared.function.Dyadic.TheVariants as two
use Rattle.apl_scalar.specs.Functions.{dyadic_of}
use Rattle.apl_operators.specs.Places.{row_of}

-- those of one number with each of others are appended
abbrev pub AddsProducts : ℤ → List ℤ → List ℤ → List ℤ → Type 0
AddsProducts x ys old new = ok_map (λ row. old ++ row) (row_of (dyadic_of two.Times) x ys) ≡ Ok new
