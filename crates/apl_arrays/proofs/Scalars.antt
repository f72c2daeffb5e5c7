-- Scalars that are numbers.
use Rattle.std.proofs.Common.{◌≡◌, ℕ, ℤ, Bool, true, false, cond, List, [], ◌∷◌, length, Option, Some, None, ap, arith}
use Rattle.std.specs.Prelude.{◌==◌}
use Rattle.std.proofs.lemmas.Bool.{ne_eqb}
use Rattle.apl_arrays.specs.declared.cell.Cell.TheVariants.{Num}
use Rattle.apl_arrays.specs.Cells.{Arr, Items, Numbers, Characters}
use Rattle.apl_arrays.specs.Simple.{lone_number, number_of_scalar, single}

-- the array that is a number
pub number_alone : (a : Arr) (z : ℤ) → number_of_scalar a ≡ Some z → a ≡ single (Num z)
number_alone a z e = of a.shape a.items e
  where
    none : (b : Bool) (o : Option ℤ) → b ≡ false → cond b o None ≡ Some z → ⊥
    none true o f e = absurd (cc)
    none false o f e = absurd (cc)

    of : (shape : List ℕ) (items : Items) → number_of_scalar (record { shape = shape; items = items }) ≡ Some z → record { shape = shape; items = items } ≡ single (Num z)
    of [] (Numbers []) e = absurd (cc)
    of [] (Numbers (y ∷ [])) e = let s : y ≡ z = cc in ap (λ (x : ℤ). single (Num x)) s
    of [] (Numbers (y ∷ x ∷ zs)) e = absurd (cc)
    of [] (Characters cs) e = absurd (cc)
    of (n ∷ ns) items e = absurd (none (length (n ∷ ns) == 0) (lone_number items) (ne_eqb (length (n ∷ ns)) 0 (λ h. omega arith)) e)
