-- Scalars and vectors joined in a vector.
-- It is the catenation of `Catenate` for operands of one axis at the most.
use Rattle.std.specs.Prelude.{◌+◌, ◌++◌, [], ◌∷◌, Result}
use Rattle.apl_faults.specs.declared.fault.Fault.{Fault}
use Rattle.apl_arrays.specs.Cells.{Arr, Items, Numbers, Characters}
use Rattle.apl_arrays.specs.Checks.{count_of, limited}
use Rattle.apl_arrays.specs.Results.{and_then, ok_map}
use Rattle.apl_reshape.specs.Catenate.{Both, BothNumbers, BothCharacters, of_one_type}

-- the elements of two operands, one after another
abbrev pub appended : Both → Items
appended (BothNumbers xs ys) = Numbers (xs ++ ys)
appended (BothCharacters xs ys) = Characters (xs ++ ys)

-- all elements of two operands in a vector
abbrev pub joined_vectors : Arr → Arr → Result Arr Fault
joined_vectors a b =
    and_then (of_one_type a.items b.items) (λ both.
    ok_map (λ shape. record { shape = shape; items = appended both }) (limited ((count_of a + count_of b) ∷ [])))
