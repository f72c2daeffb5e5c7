-- What a base leaves of a number, and how large that is.
use Rattle.std.proofs.Common.{◌≡◌, ℕ, zero, suc, ℤ, pos, negsuc, neg_ℤ, ◌-ℤ◌, ◌*ℤ◌, ◌<ℤ◌, ◌+◌, ◌*◌, ◌/◌, ◌%◌, ◌≤◌, refl, sym, subst, arith}
use mir.Syntax.{w128}
use mir.Val.{SFits}
use Rattle.std.specs.Int.{int_div_euclid}
use Rattle.std.proofs.Math.Nat.{div-add-mod, mul-le-mul_right}
use Rattle.std.proofs.lemmas.Int.{ints}
use Rattle.apl_scalar.specs.Functions.{residue}
use Rattle.apl_search.specs.Encoded.{left_of, IsNear}
use Rattle.apl_search.proofs.Products.{least}

less : (a n : ℕ) → a / suc n ≤ a
less a n =
    let whole : suc n * (a / suc n) + a % suc n ≡ a = div-add-mod a (suc n) in
    let most : 1 * (a / suc n) ≤ suc n * (a / suc n) = mul-le-mul_right (a / suc n) (omega arith) in
    omega arith

near_by : (r : ℤ) (n : ℕ) → IsNear r → IsNear (int_div_euclid r (pos (suc n)))
near_by (pos a) n h =
    let l = less a n in
    let high = h.high in
    record { low = omega (arith, ints); high = omega (arith, ints) }
near_by (negsuc a) n h =
    let l = less a n in
    let low = h.low in
    record { low = omega (arith, ints); high = omega (arith, ints) }

pub near_back : (r : ℤ) → IsNear r → IsNear (neg_ℤ r)
near_back r h =
    let high = h.high in
    let low = h.low in
    record { low = omega (arith, ints); high = omega (arith, ints) }

near_left : (base r : ℤ) → IsNear r → IsNear (left_of base r)
near_left (pos zero) r h = record { low = omega (arith, ints); high = omega (arith, ints) }
near_left (pos (suc n)) r h = near_by r n h
near_left (negsuc n) r h = near_by (neg_ℤ r) n (near_back r h)

-- what a base leaves of a number that is near is near too
pub near_rest : (base r rest : ℤ) → IsNear r → rest ≡ left_of base r → IsNear rest
near_rest base r rest h e = let P : ℤ → Type 0 = λ z. IsNear z in subst P (sym e) (near_left base r h)

pub fits_near : (r : ℤ) → IsNear r → SFits w128 r
fits_near r h =
    let high = h.high in
    let low = h.low in
    omega (arith, ints)

-- the digit is what the base times what it leaves is short of
pub digit_by : (base r : ℤ) → residue base r ≡ r -ℤ base *ℤ left_of base r
digit_by (pos zero) r = omega (arith, ints)
digit_by (pos (suc n)) r = refl
digit_by (negsuc n) r = refl

pub left_up : (base r : ℤ) → pos 0 <ℤ base → left_of base r ≡ int_div_euclid r base
left_up (pos zero) r h = absurd (omega (arith, ints))
left_up (pos (suc n)) r h = refl
left_up (negsuc n) r h = absurd (omega (arith, ints))

pub left_down : (base r : ℤ) → base <ℤ pos 0 → left_of base r ≡ int_div_euclid (neg_ℤ r) (neg_ℤ base)
left_down (pos n) r h = absurd (omega (arith, ints))
left_down (negsuc n) r h = refl

-- products of such numbers fit 128 bits, and so does a difference from one
pub product_fits : (x y : ℤ) → IsNear x → IsNear y → SFits w128 (x *ℤ y)
product_fits (pos m) (pos n) f g = let p = least m n (omega (arith, ints, f.high)) (omega (arith, ints, g.high)) in omega (arith, ints)
product_fits (pos m) (negsuc n) f g = let p = least m (suc n) (omega (arith, ints, f.high)) (omega (arith, ints, g.low)) in omega (arith, ints)
product_fits (negsuc m) (pos n) f g = let p = least (suc m) n (omega (arith, ints, f.low)) (omega (arith, ints, g.high)) in omega (arith, ints)
product_fits (negsuc m) (negsuc n) f g = let p = least (suc m) (suc n) (omega (arith, ints, f.low)) (omega (arith, ints, g.low)) in omega (arith, ints)

pub difference_fits : (z x y : ℤ) → IsNear z → IsNear x → IsNear y → SFits w128 (z -ℤ x *ℤ y)
difference_fits z (pos m) (pos n) h f g = let p = least m n (omega (arith, ints, f.high)) (omega (arith, ints, g.high)) in omega (arith, ints, h.low, h.high)
difference_fits z (pos m) (negsuc n) h f g = let p = least m (suc n) (omega (arith, ints, f.high)) (omega (arith, ints, g.low)) in omega (arith, ints, h.low, h.high)
difference_fits z (negsuc m) (pos n) h f g = let p = least (suc m) n (omega (arith, ints, f.low)) (omega (arith, ints, g.high)) in omega (arith, ints, h.low, h.high)
difference_fits z (negsuc m) (negsuc n) h f g = let p = least (suc m) (suc n) (omega (arith, ints, f.low)) (omega (arith, ints, g.low)) in omega (arith, ints, h.low, h.high)
