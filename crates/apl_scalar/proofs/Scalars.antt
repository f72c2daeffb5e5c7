-- Functions of scalars.
use Rattle.std.proofs.Common.{◌≡◌, ℤ, [], ◌∷◌, Some, Result, Ok, Err, refl, ap, sym, ◌∙◌}
use Rattle.apl_faults.specs.declared.fault.Fault.{Fault}
use Rattle.apl_arrays.specs.declared.cell.Cell.TheVariants.{Num}
use Rattle.apl_arrays.specs.Cells.{Arr}
use Rattle.apl_arrays.specs.Results.{and_then, ok_map}
use Rattle.apl_arrays.specs.Simple.{single, number_of_scalar}
use Rattle.apl_arrays.proofs.Scalars.{number_alone}
use Rattle.apl_scalar.specs.declared.function.Dyadic.{Dyadic}
use Rattle.apl_scalar.specs.Functions.{dyadic_of}
use Rattle.apl_scalar.specs.Extension.{numbers_in, dyadic}

-- a function of two arrays that are numbers, by its value or its fault
pub two_numbers : (f : Dyadic) (a b : Arr) (x y : ℤ) (r : Result ℤ Fault) → number_of_scalar a ≡ Some x → number_of_scalar b ≡ Some y → r ≡ dyadic_of f x y →
    dyadic f a b ≡ ok_map (λ z. single (Num z)) r
two_numbers f a b x y r d e h =
    ap (λ (c : Arr). dyadic f c b) (number_alone a x d)
    ∙ ap (dyadic f (single (Num x))) (number_alone b y e)
    ∙ once (dyadic_of f x y)
    ∙ ap (ok_map (λ z. single (Num z))) (sym h)
  where
    once : (r : Result ℤ Fault) → ok_map (numbers_in []) (and_then r (λ z. ok_map (λ zs. z ∷ zs) (Ok []))) ≡ ok_map (λ z. single (Num z)) r
    once (Ok z) = refl
    once (Err e) = refl
