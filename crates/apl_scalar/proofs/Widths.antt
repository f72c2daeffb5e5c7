-- Numbers of any width, their flags and their bits.
use Rattle.std.proofs.Common.{◌≡◌, ◌⊎◌, inl, inr, ℕ, zero, suc, ℤ, pos, negsuc, Bool, true, false, cond, ◌-ℤ◌, ◌≤ℤ◌, ◌<ℤ◌, ◌^◌, ◌<◌, Ok, Err, FitsSigned, to_z, of_z, lit<, refl, ap, sym, ◌∙◌, subst, arith}
use Rattle.std.specs.Prelude.{bit_or, unsigned_abs}
use Rattle.std.specs.Int.{Width, w8, w16, w32, w64, w128}
use Rattle.std.proofs.lemmas.Int.{ints, to_z_pos, of_z-to_z}
use Rattle.std.proofs.lemmas.Nat.{or_lt, le_or_l, le_or_r, pow_pos}
use mir.Val.{bits, hbits, bool_byte}
use mir.ValLaws.{pow-bits}
use Rattle.apl_faults.specs.declared.fault.Fault.TheVariants.{Limit}
use Rattle.apl_scalar.specs.Functions.{in_range, is_in_range}
use Rattle.apl_scalar.specs.Operands.{IsTruth}
use Rattle.apl_scalar.specs.Lanes.{HasNoneIn}
use Rattle.apl_scalar.proofs.Signs.{in_range-fits}

one_lt : (w : Width) → 1 < 2 ^ hbits w
one_lt w8 = lit< tt
one_lt w16 = lit< tt
one_lt w32 = lit< tt
one_lt w64 = lit< tt
one_lt w128 = lit< tt

pub bits_lt : (w : Width) (z : ℤ) → FitsSigned w z → of_z w z < 2 ^ bits w
bits_lt w (pos n) f = omega (arith, f.sfits, pow-bits w)
bits_lt w (negsuc n) f = omega (arith, pow_pos (bits w))

-- a number isn't negative where its top bit isn't set
up_sign : (w : Width) (z : ℤ) → FitsSigned w z → of_z w z < 2 ^ hbits w → pos 0 ≤ℤ z
up_sign w (pos n) f h = omega (arith, ints)
up_sign w (negsuc n) f h = absurd (omega (arith, f.sfits, pow-bits w))

up_bits : (w : Width) (n : ℕ) → n < 2 ^ bits w → pos 0 ≤ℤ to_z w n → n < 2 ^ hbits w
up_bits w n l h = by (to_z w n) (of_z-to_z w n l) (omega (arith, ints)) h
  where
    by : (z : ℤ) → of_z w z ≡ n → FitsSigned w z → pos 0 ≤ℤ z → n < 2 ^ hbits w
    by (pos m) e f h = omega (arith, f.sfits)
    by (negsuc m) e f h = absurd (omega (arith, ints))

pub neither : (w : Width) (x y : ℤ) → FitsSigned w x → FitsSigned w y → pos 0 ≤ℤ to_z w (bit_or (of_z w x) (of_z w y)) → (pos 0 ≤ℤ x) × (pos 0 ≤ℤ y)
neither w x y f g h =
    let l : bit_or (of_z w x) (of_z w y) < 2 ^ hbits w = up_bits w (bit_or (of_z w x) (of_z w y)) (or_lt (bits w) (of_z w x) (of_z w y) (bits_lt w x f) (bits_lt w y g)) h in
    (up_sign w x f (omega (arith, le_or_l (of_z w x) (of_z w y))), up_sign w y g (omega (arith, le_or_r (of_z w x) (of_z w y))))

pub one_negative : (w : Width) (x y : ℤ) → FitsSigned w x → FitsSigned w y → to_z w (bit_or (of_z w x) (of_z w y)) <ℤ pos 0 → (x <ℤ pos 0) ⊎ (y <ℤ pos 0)
one_negative w (negsuc m) y f g h = inl (omega (arith, ints))
one_negative w (pos m) (negsuc n) f g h = inr (omega (arith, ints))
one_negative w (pos m) (pos n) f g h =
    let e : to_z w (bit_or m n) ≡ pos (bit_or m n) = to_z_pos w (bit_or m n) (or_lt (hbits w) m n f.sfits g.sfits) in
    absurd (omega (arith, ints))

truth : (w : Width) (z : ℤ) → FitsSigned w z → of_z w z < 2 → IsTruth z
truth w (pos zero) f h = (false, refl)
truth w (pos (suc zero)) f h = (true, refl)
truth w (pos (suc (suc n))) f h = absurd (omega arith)
truth w (negsuc n) f h = absurd (omega (arith, f.sfits, pow-bits w, one_lt w))

truth_bits : (w : Width) (z : ℤ) → IsTruth z → of_z w z < 2
truth_bits w z (false, e) = subst (λ x. of_z w x < 2) (sym e) (lit< tt)
truth_bits w z (true, e) = subst (λ x. of_z w x < 2) (sym e) (lit< tt)

pub both_truths : (w : Width) (x y : ℤ) → FitsSigned w x → FitsSigned w y → IsTruth (to_z w (bit_or (of_z w x) (of_z w y))) → IsTruth x × IsTruth y
both_truths w x y f g t =
    let n : bit_or (of_z w x) (of_z w y) < 2 = subst (λ n. n < 2) (of_z-to_z w (bit_or (of_z w x) (of_z w y)) (or_lt (bits w) (of_z w x) (of_z w y) (bits_lt w x f) (bits_lt w y g))) (truth_bits w _ t) in
    (truth w x f (omega (arith, le_or_l (of_z w x) (of_z w y))), truth w y g (omega (arith, le_or_r (of_z w x) (of_z w y))))

-- a flag made of a truth value
lowered : (w : Width) (far : Bool) → pos 0 ≤ℤ to_z w (of_z w (pos 0 -ℤ to_z w (bool_byte far))) → far ≡ false
lowered w false h = refl
lowered w true h = absurd (omega (arith, ints, one_lt w))

raised : (w : Width) (far : Bool) → to_z w (of_z w (pos 0 -ℤ to_z w (bool_byte far))) <ℤ pos 0 → far ≡ true
raised w true h = refl
raised w false h = absurd (omega (arith, ints, one_lt w))

pub in_range_is : (z v : ℤ) → in_range z ≡ Ok v → z ≡ v
in_range_is z v e = by (is_in_range z) e
  where
    by : (b : Bool) → cond b (Ok z) (Err Limit) ≡ Ok v → z ≡ v
    by true e = cc
    by false e = cc

-- by its low bits in a lane, and whether they aren't the whole
pub low_value : (w : Width) (z s : ℤ) (far : Bool) → FitsSigned w64 s → (far ≡ false → s ≡ z) → pos 0 ≤ℤ to_z w (of_z w (pos 0 -ℤ to_z w (bool_byte far))) → in_range z ≡ Ok s
low_value w z s far f same h = let e : s ≡ z = same (lowered w far h) in ap in_range (sym e) ∙ in_range-fits s f

pub low_none : (w : Width) (z : ℤ) (far : Bool) → (FitsSigned w z → far ≡ false) → to_z w (of_z w (pos 0 -ℤ to_z w (bool_byte far))) <ℤ pos 0 → HasNoneIn w (in_range z)
low_none w z far near h v e f =
    let t : far ≡ true = raised w far h in
    let n : far ≡ false = near (subst (λ x. FitsSigned w x) (sym (in_range_is z v e)) f) in
    cc

-- a number whose magnitude fits has a negation that fits
pub magnitude_none : (w : Width) (y : ℤ) → ((z : ℤ) → FitsSigned w z → FitsSigned w64 z) → HasNoneIn w (in_range (pos 0 -ℤ y)) → HasNoneIn w (in_range (pos (unsigned_abs y)))
magnitude_none w y more none v e f =
    let g : FitsSigned w (pos 0 -ℤ y) = turned y (subst (λ x. FitsSigned w x) (sym (in_range_is (pos (unsigned_abs y)) v e)) f) in
    none (pos 0 -ℤ y) (in_range-fits (pos 0 -ℤ y) (more (pos 0 -ℤ y) g)) g
  where
    turned : (y : ℤ) → FitsSigned w (pos (unsigned_abs y)) → FitsSigned w (pos 0 -ℤ y)
    turned y f = omega (arith, ints)
