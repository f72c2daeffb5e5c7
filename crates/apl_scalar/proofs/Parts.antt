-- Pieces of the numbers of an operand.
use Rattle.std.proofs.Common.{◌≡◌, ℕ, ◌-◌, ◌≤◌, ℤ, pos, List, map, length, take, drop, ap, sym, ◌∙◌, subst, arith, length-take, length-drop, get_or-take, get_or-drop}
use Rattle.std.specs.Prelude.{slice_range}
use Rattle.apl_scalar.specs.Operands.{Same, Each}
use Rattle.apl_scalar.specs.Lanes.{IsPiece}
use Rattle.apl_scalar.specs.inside.Rooms.{IsEach}
use Rattle.apl_scalar.proofs.OfLanes.{numbers-take, numbers-drop}

-- numbers from one place to another
pub numbers-range : {A : Type 0} (value : A → ℤ) (numbers : List A → List ℤ) → ((xs : List A) → numbers xs ≡ map value xs) → (xs : List A) (from till : ℕ) →
    numbers (take (till - from) (drop from xs)) ≡ slice_range (numbers xs) from till
numbers-range value numbers each xs from till = numbers-take value numbers each (till - from) (drop from xs) ∙ ap (take (till - from)) (numbers-drop value numbers each from xs)

-- of many
pub piece_range : (zs ys : List ℤ) (from till : ℕ) → from ≤ till → till ≤ length zs → ys ≡ slice_range zs from till → IsPiece (Each zs) from till (Each ys)
piece_range zs ys from till order within e =
    subst (λ (l : List ℤ). IsPiece (Each zs) from till (Each l)) (sym e)
    (omega (arith, length-take (till - from) (drop from zs), length-drop from zs), λ j h. get_or-take (till - from) (drop from zs) j (pos 0) h ∙ get_or-drop from zs j (pos 0))

-- of one that is laid out
pub piece_spread : (x : ℤ) (room ys : List ℤ) (from till : ℕ) → till - from ≤ length room → IsEach x room → ys ≡ take (till - from) room → IsPiece (Same x) from till (Each ys)
piece_spread x room ys from till enough same e =
    subst (λ (l : List ℤ). IsPiece (Same x) from till (Each l)) (sym e)
    (omega (arith, length-take (till - from) room), λ j h. get_or-take (till - from) room j (pos 0) h ∙ same j (omega arith))
