-- The axis along which a function goes is one of the array's.
use Rattle.std.proofs.Common.{◌≡◌, ℕ, zero, suc, ℤ, pos, negsuc, ◌-◌, ◌<◌, ◌&&◌, Bool, true, false, nat_le, nat_lt, cond, List, [], ◌∷◌, Option, None, Some, Result, Ok, Err, refl, arith}
use Rattle.std.proofs.lemmas.Bool.{ltb-true}
use Rattle.apl_faults.specs.declared.fault.Fault.{Fault}
use Rattle.apl_faults.specs.declared.fault.Fault.TheVariants as fault
use Rattle.apl_arrays.specs.declared.axis_choice.Along.{Along}
use Rattle.apl_arrays.specs.declared.axis_choice.Along.TheVariants.{First, Last, Named}
use Rattle.apl_arrays.specs.Along.{axis_along, axis_named, axis_numbered, axis_of}
use Rattle.apl_arrays.specs.Cells.{Arr, Items, Numbers, Characters}
use Rattle.apl_arrays.specs.Results.{ok_map}
use Rattle.apl_arrays.proofs.Places.{both}

numbered : (rank origin : ℕ) (z : ℤ) (axis : ℕ) → axis_numbered rank origin z ≡ Ok axis → axis < rank
numbered rank origin (negsuc n) axis e = absurd (cc)
numbered rank origin (pos n) axis e = at (nat_le origin n && nat_lt (n - origin) rank) refl e
  where
    at : (b : Bool) → nat_le origin n && nat_lt (n - origin) rank ≡ b → cond b (Ok (n - origin)) (Err fault.Axis) ≡ Ok axis → axis < rank
    at true f e =
        let same : n - origin ≡ axis = cc in
        omega (arith, ltb-true (n - origin) rank (both (nat_le origin n) (nat_lt (n - origin) rank) f).1)
    at false f e = absurd (cc)

of_items : (rank origin : ℕ) (items : Items) (axis : ℕ) → axis_of rank origin items ≡ Ok axis → axis < rank
of_items rank origin (Numbers []) axis e = absurd (cc)
of_items rank origin (Numbers (z ∷ [])) axis e = numbered rank origin z axis e
of_items rank origin (Numbers (y ∷ z ∷ zs)) axis e = absurd (cc)
of_items rank origin (Characters cs) axis e = absurd (cc)

named : (rank origin : ℕ) (slots : List (Option Arr)) (axis : ℕ) → axis_named rank origin slots ≡ Ok axis → axis < rank
named rank origin [] axis e = absurd (cc)
named rank origin (None ∷ []) axis e = absurd (cc)
named rank origin (Some a ∷ []) axis e = of_items rank origin a.items axis e
named rank origin (s ∷ t ∷ slots) axis e = absurd (cc)

pub axis_within : (along : Along) (rank origin axis : ℕ) → axis_along along rank origin ≡ Ok (Some axis) → axis < rank
axis_within First zero origin axis e = absurd (cc)
axis_within First (suc n) origin axis e = let same : 0 ≡ axis = cc in omega arith
axis_within Last zero origin axis e = absurd (cc)
axis_within Last (suc n) origin axis e = let same : n ≡ axis = cc in omega arith
axis_within (Named slots) rank origin axis e = at (axis_named rank origin slots.now) refl e
  where
    at : (r : Result ℕ Fault) → axis_named rank origin slots.now ≡ r → ok_map Some r ≡ Ok (Some axis) → axis < rank
    at (Ok k) f e = let same : k ≡ axis = cc in named rank origin slots.now axis (cc)
    at (Err x) f e = absurd (cc)
