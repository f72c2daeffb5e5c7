-- Both of two numbers in one, in the type that stores them.
use Rattle.std.proofs.Common.{◌≡◌, ℕ, ℤ, pos, ◌<◌, ◌≤◌, ◌^◌, FitsSigned, to_z, of_z, ◌+◌, w8, w16, w32, w64, nat_lt, Bool, true, false, subst, sym, ap, ◌∙◌, arith, refl}
use Rattle.std.specs.Prelude.{bit_or}
use Rattle.std.specs.Int.{int_bit_or, w128, Width}
use Rattle.std.proofs.lemmas.Int.{ints, of_z-to_z, to_z_pos}
use Rattle.std.proofs.lemmas.Bool.{ltb-true, ltb-false}
use Rattle.std.proofs.lemmas.Nat.{or_lt, le_or_l, le_or_r}
use mir.Val.{hbits}
use Rattle.apl_scalar.specs.Functions.{number_of}
use Rattle.apl_scalar.specs.Operands.{IsTruth}
use Rattle.apl_scalar.proofs.Truths.{small_truth}

-- The bits of a number of h bits and a sign are below 2^h, or as far from 2^64.
abbrev IsShort : ℕ → ℕ → Type 0
IsShort h a = 2 ^ h ≤ a → 2 ^ 64 ≤ a + 2 ^ h

both_short : (h a b : ℕ) → IsShort h a → IsShort h b → IsShort h (bit_or a b)
both_short h a b f g far = split (nat_lt a (2 ^ h)) (nat_lt b (2 ^ h)) refl refl
  where
    split : (s t : Bool) → nat_lt a (2 ^ h) ≡ s → nat_lt b (2 ^ h) ≡ t → 2 ^ 64 ≤ bit_or a b + 2 ^ h
    split true true s t = absurd (omega (arith, or_lt h a b (ltb-true a (2 ^ h) s) (ltb-true b (2 ^ h) t)))
    split false t s e = omega (arith, le_or_l a b, f (ltb-false a (2 ^ h) s))
    split true false s t = omega (arith, le_or_r a b, g (ltb-false b (2 ^ h) t))

short_fits : (w : Width) (o : ℕ) → o < 2 ^ 64 → hbits w ≤ 63 → IsShort (hbits w) o → FitsSigned w (to_z w64 o)
short_fits w o b l s = split w l s (nat_lt o (2 ^ hbits w)) refl
  where
    split : (w : Width) → hbits w ≤ 63 → IsShort (hbits w) o → (t : Bool) → nat_lt o (2 ^ hbits w) ≡ t → FitsSigned w (to_z w64 o)
    split w8 l s true t = let h : o < 2 ^ 7 = ltb-true o (2 ^ 7) t in let e : to_z w64 o ≡ pos o = to_z_pos w64 o (omega arith) in omega (arith, ints)
    split w8 l s false t = let h : 2 ^ 64 ≤ o + 2 ^ 7 = s (ltb-false o (2 ^ 7) t) in let m : o < 2 ^ 64 = b in grind (arith, ints)
    split w16 l s true t = let h : o < 2 ^ 15 = ltb-true o (2 ^ 15) t in let e : to_z w64 o ≡ pos o = to_z_pos w64 o (omega arith) in omega (arith, ints)
    split w16 l s false t = let h : 2 ^ 64 ≤ o + 2 ^ 15 = s (ltb-false o (2 ^ 15) t) in let m : o < 2 ^ 64 = b in grind (arith, ints)
    split w32 l s true t = let h : o < 2 ^ 31 = ltb-true o (2 ^ 31) t in let e : to_z w64 o ≡ pos o = to_z_pos w64 o (omega arith) in omega (arith, ints)
    split w32 l s false t = let h : 2 ^ 64 ≤ o + 2 ^ 31 = s (ltb-false o (2 ^ 31) t) in let m : o < 2 ^ 64 = b in grind (arith, ints)
    split w64 l s true t = let h : o < 2 ^ 63 = ltb-true o (2 ^ 63) t in let e : to_z w64 o ≡ pos o = to_z_pos w64 o (omega arith) in omega (arith, ints)
    split w64 l s false t = let h : 2 ^ 64 ≤ o + 2 ^ 63 = s (ltb-false o (2 ^ 63) t) in let m : o < 2 ^ 64 = b in grind (arith, ints)
    split w128 l s t e = absurd (omega arith)

-- what fits a type in both fits it in one
both_fit : (w : Width) (x y : ℤ) → FitsSigned w x → FitsSigned w y → FitsSigned w64 x → FitsSigned w64 y → FitsSigned w (int_bit_or w64 x y)
both_fit w x y f g p q = at w f g
  where
    a : ℕ
    a = of_z w64 x

    b : ℕ
    b = of_z w64 y

    below : bit_or a b < 2 ^ 64
    below = or_lt 64 a b (omega (arith, ints)) (omega (arith, ints))

    at : (w : Width) → FitsSigned w x → FitsSigned w y → FitsSigned w (to_z w64 (bit_or a b))
    at w8 f g = short_fits w8 (bit_or a b) below (omega arith) (both_short 7 a b (λ h. omega (arith, ints)) (λ h. omega (arith, ints)))
    at w16 f g = short_fits w16 (bit_or a b) below (omega arith) (both_short 15 a b (λ h. omega (arith, ints)) (λ h. omega (arith, ints)))
    at w32 f g = short_fits w32 (bit_or a b) below (omega arith) (both_short 31 a b (λ h. omega (arith, ints)) (λ h. omega (arith, ints)))
    at w64 f g = let h = below in omega (arith, ints)
    at w128 f g = let h = below in omega (arith, ints)

-- it is 0 or 1 only where both are
pub both_truths : (w : Width) (x y r v : ℤ) → FitsSigned w x → FitsSigned w y → FitsSigned w64 x → FitsSigned w64 y → r ≡ int_bit_or w64 x y → (FitsSigned w r → v ≡ r) → IsTruth v → IsTruth x × IsTruth y
both_truths w x y r v f g p q e low t =
    let fits : FitsSigned w r = subst (λ (z : ℤ). FitsSigned w z) (sym e) (both_fit w x y f g p q) in
    let same : int_bit_or w64 x y ≡ number_of t.0 = sym e ∙ (sym (low fits) ∙ t.1) in
    let few : bit_or (of_z w64 x) (of_z w64 y) < 2 = small t.0 same in
    (small_truth x p (omega (arith, le_or_l (of_z w64 x) (of_z w64 y))), small_truth y q (omega (arith, le_or_r (of_z w64 x) (of_z w64 y))))
  where
    below : bit_or (of_z w64 x) (of_z w64 y) < 2 ^ 64
    below = or_lt 64 (of_z w64 x) (of_z w64 y) (omega (arith, ints)) (omega (arith, ints))

    small : (b : Bool) → int_bit_or w64 x y ≡ number_of b → bit_or (of_z w64 x) (of_z w64 y) < 2
    small false e = let z : bit_or (of_z w64 x) (of_z w64 y) ≡ 0 = sym (of_z-to_z w64 (bit_or (of_z w64 x) (of_z w64 y)) below) ∙ ap (of_z w64) e in omega arith
    small true e = let z : bit_or (of_z w64 x) (of_z w64 y) ≡ 1 = sym (of_z-to_z w64 (bit_or (of_z w64 x) (of_z w64 y)) below) ∙ ap (of_z w64) e in omega arith
