-- Products in a wider type, and whether their low bits are the whole.
use Rattle.std.proofs.Common.{◌≡◌, ℕ, ℤ, pos, negsuc, neg_ℤ, Bool, true, false, ◌*ℤ◌, ◌≤ℤ◌, ◌<ℤ◌, ◌*◌, ◌%◌, ◌^◌, ◌<◌, ◌≤◌, FitsSigned, Ok, to_z, of_z, refl, ap, sym, ◌∙◌, subst, arith}
use Rattle.std.specs.Prelude.{nat_eq, not, unsigned_abs, bit_xor, bit_or}
use Rattle.std.specs.Int.{Width, w32, w64, int_shr, int_wrap, int_wrapping_neg}
use Rattle.std.proofs.lemmas.Bool.{eqb-true, eq-eqb}
use Rattle.std.proofs.lemmas.Int.{ints, to_z-of_z, of_z-to_z, fits_signed_mul, fits_signed_from_abs, int_wrap_fits, wrapping_neg_is}
use Rattle.std.proofs.lemmas.Nat.{and_le_l, and_le_r, xor_lt}
use lib.Bits.{xor_add_and, xor_self}
use mir.Val.{hbits}
use Rattle.apl_scalar.specs.Functions.{in_range}
use Rattle.apl_scalar.proofs.Signs.{in_range-fits}
use Rattle.apl_scalar.proofs.Widths.{bits_lt, neither}

-- a product of small numbers doesn't wrap
pub product_args : (w : Width) (m : ℕ) (a b x y : ℤ) → m < 2 ^ hbits w → unsigned_abs x ≤ m → unsigned_abs y ≤ m → a ≡ x → b ≡ y → to_z w (of_z w a) *ℤ to_z w (of_z w b) ≡ x *ℤ y
product_args w m a b x y l f g p q =
    ap (λ z. z *ℤ to_z w (of_z w b)) (ap (λ z. to_z w (of_z w z)) p ∙ to_z-of_z w x (fits x f)) ∙ ap (λ z. x *ℤ z) (ap (λ z. to_z w (of_z w z)) q ∙ to_z-of_z w y (fits y g))
  where
    fits : (z : ℤ) → unsigned_abs z ≤ m → FitsSigned w z
    fits z h = fits_signed_from_abs w z (omega arith)

pub product_in : (w : Width) (m : ℕ) (a b x y : ℤ) → m < 2 ^ hbits w → m * m < 2 ^ hbits w → unsigned_abs x ≤ m → unsigned_abs y ≤ m → a ≡ x → b ≡ y
    → to_z w (of_z w (to_z w (of_z w a) *ℤ to_z w (of_z w b))) ≡ x *ℤ y
product_in w m a b x y l s f g p q = ap (λ z. to_z w (of_z w z)) (product_args w m a b x y l f g p q) ∙ to_z-of_z w (x *ℤ y) (fits_signed_mul w x y m m f g s)

pub product_in_range : (m : ℕ) (a b x y : ℤ) → m < 2 ^ 63 → m * m < 2 ^ 63 → unsigned_abs x ≤ m → unsigned_abs y ≤ m → a ≡ x → b ≡ y
    → in_range (x *ℤ y) ≡ Ok (to_z w64 (of_z w64 (to_z w64 (of_z w64 a) *ℤ to_z w64 (of_z w64 b))))
product_in_range m a b x y l s f g p q =
    in_range-fits (x *ℤ y) (fits_signed_mul w64 x y m m f g s) ∙ ap (λ (z : ℤ). Ok z) (sym (product_in w64 m a b x y l s f g p q))

pub same_bits : (w : Width) (m n : ℕ) → not (nat_eq m n) ≡ false → to_z w m ≡ to_z w n
same_bits w m n h = ap (to_z w) (eqb-true m n (plain (nat_eq m n) h))
  where
    plain : (b : Bool) → not b ≡ false → b ≡ true
    plain true h = refl
    plain false h = cc

pub bits_same : (w : Width) (a b : ℤ) → a ≡ b → not (nat_eq (of_z w a) (of_z w b)) ≡ false
bits_same w a b h = ap (λ z. not (nat_eq (of_z w a) (of_z w z))) (sym h) ∙ ap not (eq-eqb (of_z w a) (of_z w a) refl)

equal_bits : (a b : ℕ) → bit_xor a b ≡ 0 → a ≡ b
equal_bits a b h = omega (arith, xor_add_and a b, and_le_l a b, and_le_r a b)

-- which bits of a high half are not those of the low half's sign
abbrev pub far_bits : ℤ → ℤ → ℕ
far_bits z s = bit_xor (of_z w32 (to_z w64 (of_z w64 (int_shr z 32)))) (of_z w32 (int_shr s 31))

shr_fits : (z : ℤ) → FitsSigned w64 z → FitsSigned w64 (int_shr z 32)
shr_fits (pos n) f = omega (arith, ints)
shr_fits (negsuc n) f = omega (arith, ints)

-- the low half with its sign is the whole exactly where there is none
low_whole : (z s : ℤ) → FitsSigned w64 z → FitsSigned w32 s → of_z w32 s ≡ of_z w64 z % 2 ^ 32 → of_z w32 (int_shr z 32) ≡ of_z w32 (int_shr s 31) → s ≡ z
low_whole (pos n) (pos m) f g e h = omega (arith, ints)
low_whole (pos n) (negsuc m) f g e h = omega (arith, ints)
low_whole (negsuc n) (pos m) f g e h = omega (arith, ints)
low_whole (negsuc n) (negsuc m) f g e h = omega (arith, ints)

whole_low : (z s : ℤ) → FitsSigned w32 z → FitsSigned w32 s → of_z w32 s ≡ of_z w64 z % 2 ^ 32 → of_z w32 (int_shr z 32) ≡ of_z w32 (int_shr s 31)
whole_low (pos n) (pos m) f g e = omega (arith, ints)
whole_low (pos n) (negsuc m) f g e = absurd (omega (arith, ints))
whole_low (negsuc n) (pos m) f g e = absurd (omega (arith, ints))
whole_low (negsuc n) (negsuc m) f g e = omega (arith, ints)

-- a number and its negation are both not negative only at zero
no_bits : (n : ℕ) (r : ℤ) → n < 2 ^ 32 → FitsSigned w32 r → r ≡ int_wrapping_neg w32 (to_z w32 n) → pos 0 ≤ℤ to_z w32 (bit_or n (of_z w32 r)) → n ≡ 0
no_bits n r l f e h =
    let g : FitsSigned w32 (to_z w32 n) = omega (arith, ints) in
    let b : of_z w32 (to_z w32 n) ≡ n = of_z-to_z w32 n l in
    let t = neither w32 (to_z w32 n) r g f (subst (λ m. pos 0 ≤ℤ to_z w32 (bit_or m (of_z w32 r))) (sym b) h) in
    let m : r ≡ int_wrap w32 (neg_ℤ (to_z w32 n)) = e ∙ wrapping_neg_is w32 (to_z w32 n) g in
    let k : FitsSigned w32 (neg_ℤ (to_z w32 n)) = omega (arith, ints, t.0) in
    let o : r ≡ neg_ℤ (to_z w32 n) = m ∙ int_wrap_fits w32 (neg_ℤ (to_z w32 n)) k in
    let z : to_z w32 n ≡ pos 0 = omega (arith, ints, t.0, t.1) in
    sym b ∙ ap (of_z w32) z

some_bits : (n : ℕ) (r : ℤ) → r ≡ int_wrapping_neg w32 (to_z w32 n) → to_z w32 (bit_or n (of_z w32 r)) <ℤ pos 0 → n ≡ 0 → ⊥
some_bits n r e h z = zero_bits (subst (λ m. to_z w32 (bit_or m (of_z w32 r)) <ℤ pos 0) z h) (e ∙ ap (λ m. int_wrapping_neg w32 (to_z w32 m)) z)
  where
    zero_bits : to_z w32 (of_z w32 r) <ℤ pos 0 → r ≡ pos 0 → ⊥
    zero_bits h e = omega (arith, ints)

high_fits : (z : ℤ) → FitsSigned w64 z → FitsSigned w32 (int_shr z 32)
high_fits (pos n) f = omega (arith, ints)
high_fits (negsuc n) f = omega (arith, ints)

sign_fits : (s : ℤ) → FitsSigned w32 s → FitsSigned w32 (int_shr s 31)
sign_fits (pos n) f = omega (arith, ints)
sign_fits (negsuc n) f = omega (arith, ints)

far_lt : (z s : ℤ) → FitsSigned w64 z → FitsSigned w32 s → far_bits z s < 2 ^ 32
far_lt z s f g =
    xor_lt 32 (of_z w32 (to_z w64 (of_z w64 (int_shr z 32)))) (of_z w32 (int_shr s 31))
    (subst (λ x. of_z w32 x < 2 ^ 32) (sym (to_z-of_z w64 (int_shr z 32) (shr_fits z f))) (bits_lt w32 (int_shr z 32) (high_fits z f)))
    (bits_lt w32 (int_shr s 31) (sign_fits s g))

pub half_value : (z s r : ℤ) → FitsSigned w64 z → FitsSigned w32 s → FitsSigned w32 r → of_z w32 s ≡ of_z w64 z % 2 ^ 32 → r ≡ int_wrapping_neg w32 (to_z w32 (far_bits z s))
    → pos 0 ≤ℤ to_z w32 (bit_or (far_bits z s) (of_z w32 r)) → s ≡ z
half_value z s r f g k e n h =
    low_whole z s f g e (ap (of_z w32) (sym (to_z-of_z w64 (int_shr z 32) (shr_fits z f))) ∙ equal_bits _ _ (no_bits (far_bits z s) r (far_lt z s f g) k n h))

pub half_none : (z s r : ℤ) → FitsSigned w32 z → FitsSigned w32 s → of_z w32 s ≡ of_z w64 z % 2 ^ 32 → r ≡ int_wrapping_neg w32 (to_z w32 (far_bits z s))
    → to_z w32 (bit_or (far_bits z s) (of_z w32 r)) <ℤ pos 0 → ⊥
half_none z s r f g e n h =
    some_bits (far_bits z s) r n h (ap (λ m. bit_xor m (of_z w32 (int_shr s 31))) (ap (of_z w32) (to_z-of_z w64 (int_shr z 32) (shr_fits z (omega (arith, ints)))) ∙ whole_low z s f g e) ∙ xor_self (of_z w32 (int_shr s 31)))
