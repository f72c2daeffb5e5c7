-- What is left by a positive divisor, where a negative number is turned to its complement and back.
use Rattle.std.proofs.Common.{◌≡◌, ℕ, zero, suc, ℤ, pos, negsuc, ◌+ℤ◌, ◌-◌, ◌%◌, ◌^◌, ◌<◌, FitsSigned, to_z, of_z, lit<, ap, sym, ◌∙◌, arith}
use Rattle.std.specs.Prelude.{bit_and, bit_xor}
use Rattle.std.specs.Int.{w64, int_shr}
use Rattle.std.proofs.Math.Nat.{mod-lt}
use Rattle.std.proofs.lemmas.Int.{ints, of_z-to_z, to_z-of_z}
use Rattle.std.proofs.lemmas.Nat.{and_mask}
use lib.Bits.{xor_add_and, xor_zero_r, and_zero_r}
use Rattle.apl_scalar.specs.Functions.{residue}
use Rattle.apl_scalar.specs.inside.Turns.{turned}
use Rattle.apl_scalar.proofs.Rests.{positive_rest}

-- the bits of -1 where a number is negative, and else of 0
abbrev pub signs : ℤ → ℕ
signs y = of_z w64 (int_shr (to_z w64 (of_z w64 y)) 63)

signs_up : (m : ℕ) → FitsSigned w64 (pos m) → signs (pos m) ≡ 0
signs_up m f = ap (λ z. of_z w64 (int_shr z 63)) (to_z-of_z w64 (pos m) f) ∙ plain (omega (arith, ints))
  where
    plain : m < 2 ^ 63 → of_z w64 (int_shr (pos m) 63) ≡ 0
    plain h = omega (arith, ints)

signs_down : (m : ℕ) → FitsSigned w64 (negsuc m) → signs (negsuc m) ≡ 2 ^ 64 - 1
signs_down m f = ap (λ z. of_z w64 (int_shr z 63)) (to_z-of_z w64 (negsuc m) f) ∙ plain (omega (arith, ints))
  where
    plain : m < 2 ^ 63 → of_z w64 (int_shr (negsuc m) 63) ≡ 2 ^ 64 - 1
    plain h = omega (arith, ints)

-- the complement of a number of 64 bits
complement : (n : ℕ) → n < 2 ^ 64 → bit_xor n (2 ^ 64 - 1) ≡ 2 ^ 64 - 1 - n
complement n h = omega (arith, xor_add_and n (2 ^ 64 - 1), and_mask n 64)

turned_up : (m r d s : ℕ) → s ≡ 0 → m < 2 ^ 63 → d < 2 ^ 63 → r < d →
    (bit_xor (of_z w64 (pos m)) s ≡ m) × (to_z w64 (of_z w64 (to_z w64 (bit_xor r s) +ℤ to_z w64 (bit_and d s))) ≡ pos r)
turned_up m r d s e h k l =
    let x : bit_xor (of_z w64 (pos m)) s ≡ of_z w64 (pos m) = ap (bit_xor (of_z w64 (pos m))) e ∙ xor_zero_r (of_z w64 (pos m)) in
    let b : bit_xor r s ≡ r = ap (bit_xor r) e ∙ xor_zero_r r in
    let a : bit_and d s ≡ 0 = ap (bit_and d) e ∙ and_zero_r d in
    (x ∙ bits h, ap (λ n. to_z w64 (of_z w64 (to_z w64 n +ℤ to_z w64 (bit_and d s)))) b ∙ ap (λ n. to_z w64 (of_z w64 (to_z w64 r +ℤ to_z w64 n))) a ∙ plain)
  where
    bits : m < 2 ^ 63 → of_z w64 (pos m) ≡ m
    bits h = omega (arith, ints)

    plain : to_z w64 (of_z w64 (to_z w64 r +ℤ to_z w64 0)) ≡ pos r
    plain = omega (arith, ints, k, l)

turned_down : (m r d s : ℕ) → s ≡ 2 ^ 64 - 1 → m < 2 ^ 63 → d < 2 ^ 63 → r < d →
    (bit_xor (of_z w64 (negsuc m)) s ≡ m) × (to_z w64 (of_z w64 (to_z w64 (bit_xor r s) +ℤ to_z w64 (bit_and d s))) ≡ pos (d - 1 - r))
turned_down m r d s e h k l =
    let o : of_z w64 (negsuc m) ≡ 2 ^ 64 - 1 - m = bits h in
    let x : bit_xor (of_z w64 (negsuc m)) s ≡ 2 ^ 64 - 1 - of_z w64 (negsuc m) = ap (bit_xor (of_z w64 (negsuc m))) e ∙ complement (of_z w64 (negsuc m)) (omega arith) in
    let b : bit_xor r s ≡ 2 ^ 64 - 1 - r = ap (bit_xor r) e ∙ complement r (omega arith) in
    let a : bit_and d s ≡ d = ap (bit_and d) e ∙ and_mask d 64 ∙ omega arith in
    (omega arith, ap (λ n. to_z w64 (of_z w64 (to_z w64 n +ℤ to_z w64 (bit_and d s)))) b ∙ ap (λ n. to_z w64 (of_z w64 (to_z w64 (2 ^ 64 - 1 - r) +ℤ to_z w64 n))) a ∙ plain)
  where
    bits : m < 2 ^ 63 → of_z w64 (negsuc m) ≡ 2 ^ 64 - 1 - m
    bits h = omega (arith, ints)

    of_negative : r < 2 ^ 63 → of_z w64 (negsuc r) ≡ 2 ^ 64 - 1 - r
    of_negative h = omega (arith, ints)

    negative : r < 2 ^ 63 → to_z w64 (2 ^ 64 - 1 - r) ≡ negsuc r
    negative h = ap (to_z w64) (sym (of_negative h)) ∙ to_z-of_z w64 (negsuc r) (omega (arith, ints))

    positive : to_z w64 d ≡ pos d
    positive = omega (arith, ints, k)

    total : negsuc r +ℤ pos d ≡ pos (d - 1 - r)
    total = omega (arith, ints, l)

    plain : to_z w64 (of_z w64 (to_z w64 (2 ^ 64 - 1 - r) +ℤ to_z w64 d)) ≡ pos (d - 1 - r)
    plain =
        ap (λ z. to_z w64 (of_z w64 (z +ℤ to_z w64 d))) (negative (omega arith))
        ∙ ap (λ z. to_z w64 (of_z w64 (negsuc r +ℤ z))) positive
        ∙ ap (λ z. to_z w64 (of_z w64 z)) total
        ∙ to_z-of_z w64 (pos (d - 1 - r)) (omega (arith, ints))

-- as the code turns a number
pub turned_value : (y : ℤ) → FitsSigned w64 y → of_z w64 (to_z w64 (bit_xor (of_z w64 y) (signs y))) ≡ turned y
turned_value (pos m) f =
    let small : m < 2 ^ 63 = omega (arith, ints) in
    ap (λ b. of_z w64 (to_z w64 b)) (turned_up m 0 1 (signs (pos m)) (signs_up m f) small (lit< tt) (lit< tt)).0 ∙ of_z-to_z w64 m (omega arith)
turned_value (negsuc m) f =
    let small : m < 2 ^ 63 = omega (arith, ints) in
    ap (λ b. of_z w64 (to_z w64 b)) (turned_down m 0 1 (signs (negsuc m)) (signs_down m f) small (lit< tt) (lit< tt)).0 ∙ of_z-to_z w64 m (omega arith)

-- what is left, by the rest of the number turned
pub left_value : (y : ℤ) (d r : ℕ) → FitsSigned w64 y → 0 < d → d < 2 ^ 63 → r ≡ turned y % d →
    to_z w64 (of_z w64 (to_z w64 (bit_xor r (signs y)) +ℤ to_z w64 (bit_and d (signs y)))) ≡ residue (pos d) y
left_value y zero r f o k h = absurd (omega arith)
left_value (pos m) (suc n) r f o k h =
    let small : m < 2 ^ 63 = omega (arith, ints) in
    let less : r < suc n = rw h (mod-lt _ (omega arith)) in
    (turned_up m r (suc n) (signs (pos m)) (signs_up m f) small k less).1 ∙ ap pos h ∙ sym (positive_rest (pos m) n)
left_value (negsuc m) (suc n) r f o k h =
    let small : m < 2 ^ 63 = omega (arith, ints) in
    let less : r < suc n = rw h (mod-lt _ (omega arith)) in
    (turned_down m r (suc n) (signs (negsuc m)) (signs_down m f) small k less).1 ∙ ap (λ b. pos (suc n - 1 - b)) h ∙ sym (positive_rest (negsuc m) n)
