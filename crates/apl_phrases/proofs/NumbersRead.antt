-- The number that a name gives where it is read.
use Rattle.std.proofs.Common.{◌≡◌, ℤ, Option, Some, None, refl, ap}
use Rattle.std.specs.Prelude.{IfSome, IfNone}
use Rattle.apl_arrays.specs.declared.cell.Cell.TheVariants.{Num}
use Rattle.apl_arrays.specs.Cells.{Arr}
use Rattle.apl_arrays.specs.Simple.{single, number_of_scalar}
use Rattle.apl_arrays.proofs.Scalars.{number_alone}
use Rattle.apl_machine_state.specs.Outcomes.{Becomes, read_by}
use Rattle.apl_names.specs.declared.binding.Binding.{Binding}
use Rattle.apl_names.specs.declared.binding.Binding.TheVariants.{Unset, Label, Value, Function}
use Rattle.apl_names.specs.Maps.{number_in}
use Rattle.apl_phrases.proofs.NoNumbers.{no_number_alone}

value_read : (a : Arr) (o : Option ℤ) → number_of_scalar a ≡ o → IfSome o (λ z. read_by (Some (Value a)) ≡ Becomes (single (Num z)))
value_read a None e = tt
value_read a (Some z) e = ap Becomes (number_alone a z e)

-- a name that gives a number is read as it
pub number_read : (b : Option Binding) → IfSome (number_in b) (λ z. read_by b ≡ Becomes (single (Num z)))
number_read None = tt
number_read (Some Unset) = tt
number_read (Some (Label line)) = refl
number_read (Some (Value a)) = value_read a (number_of_scalar a) refl
number_read (Some (Function d)) = tt

no_value_read : (a : Arr) (o : Option ℤ) → number_of_scalar a ≡ o → IfNone o ((z : ℤ) → read_by (Some (Value a)) ≡ Becomes (single (Num z)) → ⊥)
no_value_read a (Some y) e = tt
no_value_read a None e = other
  where
    other : (z : ℤ) → read_by (Some (Value a)) ≡ Becomes (single (Num z)) → ⊥
    other z h = let is : a ≡ single (Num z) = cc in no_number_alone a z e is

-- a name that gives none isn't read as one
pub no_number_read : (b : Option Binding) → IfNone (number_in b) ((z : ℤ) → read_by b ≡ Becomes (single (Num z)) → ⊥)
no_number_read None = λ z h. cc
no_number_read (Some Unset) = λ z h. cc
no_number_read (Some (Label line)) = tt
no_number_read (Some (Value a)) = no_value_read a (number_of_scalar a) refl
no_number_read (Some (Function d)) = λ z h. cc
