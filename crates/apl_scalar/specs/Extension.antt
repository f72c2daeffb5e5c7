-- Scalar functions of arrays: an operand of one element extends over the other.
use Rattle.std.specs.Prelude.{ℕ, ℤ, Bool, false, not, nat_lt, nat_eq, cond, List, length, slice_get, Option, Some, IfSome, Result, Ok, Err, IsErr}
use Rattle.apl_faults.specs.declared.fault.Fault.{Fault}
use Rattle.apl_faults.specs.declared.fault.Fault.TheVariants.{Domain, Rank, Length}
use Rattle.apl_arrays.specs.declared.cell.Cell.{Cell}
use Rattle.apl_arrays.specs.declared.cell.Cell.TheVariants.{Num, Char}
use Rattle.apl_arrays.specs.Index.{indices}
use Rattle.apl_arrays.specs.Cells.{Arr, Numbers, cells_of, cell_at}
use Rattle.apl_arrays.specs.Checks.{is_single, same}
use Rattle.apl_arrays.specs.Results.{and_then, ok_map, all_ok}
use Rattle.apl_arrays.specs.Simple.{number_of_scalar}
use Rattle.apl_scalar.specs.declared.function.Monadic.{Monadic}
use Rattle.apl_scalar.specs.declared.function.Dyadic.{Dyadic}
use Rattle.apl_scalar.specs.declared.function.Dyadic.TheVariants as two
use Rattle.apl_scalar.specs.Functions.{number_of, monadic_of, dyadic_of}

-- the shape of the result: of two operands of one element that of the greater rank, of one such operand the other's, and else the common one
abbrev pub extended : List ℕ → List ℕ → Result (List ℕ) Fault
extended s t =
    cond (is_single s)
    (cond (is_single t) (Ok (cond (nat_lt (length s) (length t)) t s)) (Ok t))
    (cond (is_single t) (Ok s)
    (cond (nat_eq (length s) (length t)) (cond (same s t) (Ok s) (Err Length)) (Err Rank)))

-- the element of an operand at an index list of the result
abbrev pub operand_at : Arr → List ℕ → Option Cell
operand_at a i = cond (is_single a.shape) (slice_get (cells_of a.items) 0) (cell_at a i)

-- a function at an element: a character is no number
abbrev pub monadic_at : Monadic → Option Cell → Result ℤ Fault
monadic_at f (Some (Num y)) = monadic_of f y
monadic_at f _ = Err Domain

-- a function at two elements that are not both numbers: whether they are the same is all that is asked of them
abbrev pub compared : Dyadic → Bool → Result ℤ Fault
compared two.Equal same = Ok (number_of same)
compared two.NotEqual same = Ok (number_of (not same))
compared _ same = Err Domain

-- a function at two elements: a character is no number
abbrev pub dyadic_at : Dyadic → Option Cell → Option Cell → Result ℤ Fault
dyadic_at f (Some (Num x)) (Some (Num y)) = dyadic_of f x y
dyadic_at f (Some (Num x)) (Some (Char d)) = compared f false
dyadic_at f (Some (Char c)) (Some (Num y)) = compared f false
dyadic_at f (Some (Char c)) (Some (Char d)) = compared f (nat_eq c d)
dyadic_at f _ _ = Err Domain

-- the value at each index list of a shape, or the first fault in ravel order
abbrev pub values_in : Dyadic → Arr → Arr → List ℕ → Result (List ℤ) Fault
values_in f a b s = all_ok (λ i. dyadic_at f (operand_at a i) (operand_at b i)) (indices s)

-- numbers in a shape
abbrev pub numbers_in : List ℕ → List ℤ → Arr
numbers_in s zs = record { shape = s; items = Numbers zs }

-- the value at each index list, or the first fault in ravel order
abbrev pub monadic : Monadic → Arr → Result Arr Fault
monadic f b = ok_map (numbers_in b.shape) (all_ok (λ i. monadic_at f (cell_at b i)) (indices b.shape))

-- the shapes are looked at first, then the value at each index list or the first fault in ravel order
abbrev pub dyadic : Dyadic → Arr → Arr → Result Arr Fault
dyadic f a b =
    and_then (extended a.shape b.shape) (λ s. ok_map (numbers_in s) (values_in f a b s))

-- a function of two numbers has no value there; of other arrays nothing is said
abbrev pub HasNoNumber : Dyadic → Arr → Arr → Type 0
HasNoNumber f a b = IfSome (number_of_scalar a) (λ x. IfSome (number_of_scalar b) (λ y. IsErr (dyadic_of f x y)))
