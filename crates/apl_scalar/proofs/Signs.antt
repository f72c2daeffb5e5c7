-- The sign bits of a sum.
use Rattle.std.proofs.Common.{Bool, ◌<ℤ◌, ◌≡◌, ℕ, ℤ, pos, negsuc, ◌+ℤ◌, ◌-ℤ◌, ◌+◌, ◌-◌, ◌*◌, ◌%◌, ◌^◌, ◌<◌, ◌≤◌, ◌≤ℤ◌, min, arith, refl, ap, sym, ◌∙◌, true, false, to_z, of_z, FitsSigned}
use Rattle.std.specs.Prelude.{bit_and, bit_xor}
use Rattle.std.specs.Int.{bit_at, w64, int_wrap}
use Rattle.std.specs.Int.Signed.{lt_z}
use Rattle.std.proofs.lemmas.Int.{ints, to_z-of_z, int_wrap_fits}
use Rattle.std.specs.Bool.{FalseIff}
use mir.Val.{bool_byte}
use Rattle.std.proofs.lemmas.Nat.{xor_lt, and_le_l}
use Rattle.std.proofs.lemmas.Bool.{lt-ltb, le-ltb}
use Rattle.std.specs.Prelude.{cond, Ok, Err}
use Rattle.apl_faults.specs.declared.fault.Fault.TheVariants.{Limit}
use Rattle.apl_scalar.specs.Functions.{in_range}
use Rattle.std.proofs.lemmas.Nat.Bits.{bit_at_and, bit_at_xor, bit_at-lt}

-- the top bit of the test
top_bit : (a b s t : ℕ) → bit_at (bit_and (bit_xor a s) (bit_xor b t)) 63 ≡ min ((bit_at a 63 + bit_at s 63) % 2) ((bit_at b 63 + bit_at t 63) % 2)
top_bit a b s t = bit_at_and (bit_xor a s) (bit_xor b t) 63 ∙ (ap (λ x. min x (bit_at (bit_xor b t) 63)) (bit_at_xor a s 63) ∙ ap (λ y. min ((bit_at a 63 + bit_at s 63) % 2) y) (bit_at_xor b t 63))

-- the top bit tells on which side of 2 ^ 63 a number is
record IsTop (n t : ℕ) : Type 0 where
  low : 2 ^ 63 * t ≤ n
  high : n < 2 ^ 63 * t + 2 ^ 63

is_top : (n : ℕ) → n < 2 ^ 64 → IsTop n (bit_at n 63)
is_top n h = record { low = omega arith; high = omega arith }

pub flags_lt : (a b s t : ℕ) → a < 2 ^ 64 → s < 2 ^ 64 → bit_and (bit_xor a s) (bit_xor b t) < 2 ^ 64
flags_lt a b s t h k = omega (arith, xor_lt 64 a s h k, and_le_l (bit_xor a s) (bit_xor b t))

-- the arithmetic, over the top bits
sum_low : (a b s f : ℕ) (a' b' s' f' : ℕ) → IsTop a a' → IsTop b b' → IsTop s s' → IsTop f f' → f' ≡ min ((a' + s') % 2) ((b' + s') % 2) → a' < 2 → b' < 2 → s' < 2 → s ≡ (a + b) % 2 ^ 64 → f < 2 ^ 63 → (a < 2 ^ 63 → b < 2 ^ 63 → a + b < 2 ^ 63) × (2 ^ 63 ≤ a → 2 ^ 63 ≤ b → 2 ^ 64 + 2 ^ 63 ≤ a + b)
sum_low a b s f a' b' s' f' ha hb hs hf e la lb ls es h = (λ x y. omega arith, λ x y. omega arith)

sum_high : (a b s f : ℕ) (a' b' s' f' : ℕ) → IsTop a a' → IsTop b b' → IsTop s s' → IsTop f f' → f' ≡ min ((a' + s') % 2) ((b' + s') % 2) → a' < 2 → b' < 2 → s' < 2 → s ≡ (a + b) % 2 ^ 64 → 2 ^ 63 ≤ f → (a < 2 ^ 63 → (b < 2 ^ 63) × (2 ^ 63 ≤ a + b)) × (2 ^ 63 ≤ a → (2 ^ 63 ≤ b) × (a + b < 2 ^ 64 + 2 ^ 63))
sum_high a b s f a' b' s' f' ha hb hs hf e la lb ls es h = (λ x. (omega arith, omega arith), λ x. (omega arith, omega arith))

abbrev pub sum_of : ℕ → ℕ → ℕ
sum_of a b = (a + b) % 2 ^ 64

abbrev pub sum_flags : ℕ → ℕ → ℕ
sum_flags a b = bit_and (bit_xor a (sum_of a b)) (bit_xor b (sum_of a b))

nat_low : (a b : ℕ) → a < 2 ^ 64 → b < 2 ^ 64 → sum_flags a b < 2 ^ 63 → (a < 2 ^ 63 → b < 2 ^ 63 → a + b < 2 ^ 63) × (2 ^ 63 ≤ a → 2 ^ 63 ≤ b → 2 ^ 64 + 2 ^ 63 ≤ a + b)
nat_low a b ha hb h =
    let s : sum_of a b < 2 ^ 64 = omega arith in
    sum_low a b (sum_of a b) (sum_flags a b) _ _ _ _ (is_top a ha) (is_top b hb) (is_top (sum_of a b) s) (is_top (sum_flags a b) (flags_lt a b (sum_of a b) (sum_of a b) ha s)) (top_bit a b (sum_of a b) (sum_of a b)) (bit_at-lt a 63) (bit_at-lt b 63) (bit_at-lt (sum_of a b) 63) refl h

nat_high : (a b : ℕ) → a < 2 ^ 64 → b < 2 ^ 64 → 2 ^ 63 ≤ sum_flags a b → (a < 2 ^ 63 → (b < 2 ^ 63) × (2 ^ 63 ≤ a + b)) × (2 ^ 63 ≤ a → (2 ^ 63 ≤ b) × (a + b < 2 ^ 64 + 2 ^ 63))
nat_high a b ha hb h =
    let s : sum_of a b < 2 ^ 64 = omega arith in
    sum_high a b (sum_of a b) (sum_flags a b) _ _ _ _ (is_top a ha) (is_top b hb) (is_top (sum_of a b) s) (is_top (sum_flags a b) (flags_lt a b (sum_of a b) (sum_of a b) ha s)) (top_bit a b (sum_of a b) (sum_of a b)) (bit_at-lt a 63) (bit_at-lt b 63) (bit_at-lt (sum_of a b) 63) refl h

-- a number of 64 bits is negative where its top bit is set
top_of_negative : (n : ℕ) → n < 2 ^ 64 → lt_z (to_z w64 n) (pos 0) ≡ true → 2 ^ 63 ≤ n
top_of_negative n h e = grind (arith, ints)

top_of_other : (n : ℕ) → n < 2 ^ 64 → lt_z (to_z w64 n) (pos 0) ≡ false → n < 2 ^ 63
top_of_other n h e = grind (arith, ints)

bits_lt : (x : ℤ) → FitsSigned w64 x → of_z w64 x < 2 ^ 64
bits_lt x h = omega (arith, ints)

-- a sum whose flags are not negative fits, and its bits are those of the wrapping sum
pub fits_by_flags : (x y : ℤ) → FitsSigned w64 x → FitsSigned w64 y → sum_flags (of_z w64 x) (of_z w64 y) < 2 ^ 63 → FitsSigned w64 (x +ℤ y) × (to_z w64 (sum_of (of_z w64 x) (of_z w64 y)) ≡ x +ℤ y)
fits_by_flags x y hx hy h =
    let n : (of_z w64 x < 2 ^ 63 → of_z w64 y < 2 ^ 63 → of_z w64 x + of_z w64 y < 2 ^ 63) × (2 ^ 63 ≤ of_z w64 x → 2 ^ 63 ≤ of_z w64 y → 2 ^ 64 + 2 ^ 63 ≤ of_z w64 x + of_z w64 y) = nat_low (of_z w64 x) (of_z w64 y) (bits_lt x hx) (bits_lt y hy) h in
    (grind (arith, ints), grind (arith, ints))

pub beyond_by_flags : (x y : ℤ) → FitsSigned w64 x → FitsSigned w64 y → 2 ^ 63 ≤ sum_flags (of_z w64 x) (of_z w64 y) → FitsSigned w64 (x +ℤ y) → ⊥
beyond_by_flags x y hx hy h f =
    let n : (of_z w64 x < 2 ^ 63 → (of_z w64 y < 2 ^ 63) × (2 ^ 63 ≤ of_z w64 x + of_z w64 y)) × (2 ^ 63 ≤ of_z w64 x → (2 ^ 63 ≤ of_z w64 y) × (of_z w64 x + of_z w64 y < 2 ^ 64 + 2 ^ 63)) = nat_high (of_z w64 x) (of_z w64 y) (bits_lt x hx) (bits_lt y hy) h in
    grind (arith, ints)

flags_within : (x y : ℤ) → FitsSigned w64 x → FitsSigned w64 y → sum_flags (of_z w64 x) (of_z w64 y) < 2 ^ 64
flags_within x y hx hy =
    let s : sum_of (of_z w64 x) (of_z w64 y) < 2 ^ 64 = omega arith in
    flags_lt (of_z w64 x) (of_z w64 y) _ _ (bits_lt x hx) s

-- as the code tests it
pub sum_fits : (x y : ℤ) → FitsSigned w64 x → FitsSigned w64 y → lt_z (to_z w64 (sum_flags (of_z w64 x) (of_z w64 y))) (pos 0) ≡ false → FitsSigned w64 (x +ℤ y) × (to_z w64 (sum_of (of_z w64 x) (of_z w64 y)) ≡ x +ℤ y)
sum_fits x y hx hy e = fits_by_flags x y hx hy (top_of_other (sum_flags (of_z w64 x) (of_z w64 y)) (flags_within x y hx hy) e)

pub sum_beyond : (x y : ℤ) → FitsSigned w64 x → FitsSigned w64 y → lt_z (to_z w64 (sum_flags (of_z w64 x) (of_z w64 y))) (pos 0) ≡ true → FitsSigned w64 (x +ℤ y) → ⊥
sum_beyond x y hx hy e = beyond_by_flags x y hx hy (top_of_negative (sum_flags (of_z w64 x) (of_z w64 y)) (flags_within x y hx hy) e)

-- the same for a difference
abbrev pub rest_of : ℕ → ℕ → ℕ
rest_of a b = (a + (2 ^ 64 - b)) % 2 ^ 64

abbrev pub rest_flags : ℕ → ℕ → ℕ
rest_flags a b = bit_and (bit_xor a b) (bit_xor a (rest_of a b))

rest_low : (a b s f : ℕ) (a' b' s' f' : ℕ) → IsTop a a' → IsTop b b' → IsTop s s' → IsTop f f' → f' ≡ min ((a' + b') % 2) ((a' + s') % 2) → a' < 2 → b' < 2 → s' < 2 → b < 2 ^ 64 → s ≡ (a + (2 ^ 64 - b)) % 2 ^ 64 → f < 2 ^ 63 → (a < 2 ^ 63 → 2 ^ 63 ≤ b → a + 2 ^ 64 < b + 2 ^ 63) × (2 ^ 63 ≤ a → b < 2 ^ 63 → b + 2 ^ 63 ≤ a)
rest_low a b s f a' b' s' f' ha hb hs hf e la lb ls bb es h = (λ x y. omega arith, λ x y. omega arith)

rest_high : (a b s f : ℕ) (a' b' s' f' : ℕ) → IsTop a a' → IsTop b b' → IsTop s s' → IsTop f f' → f' ≡ min ((a' + b') % 2) ((a' + s') % 2) → a' < 2 → b' < 2 → s' < 2 → b < 2 ^ 64 → s ≡ (a + (2 ^ 64 - b)) % 2 ^ 64 → 2 ^ 63 ≤ f → (a < 2 ^ 63 → (2 ^ 63 ≤ b) × (b + 2 ^ 63 ≤ a + 2 ^ 64)) × (2 ^ 63 ≤ a → (b < 2 ^ 63) × (a < b + 2 ^ 63))
rest_high a b s f a' b' s' f' ha hb hs hf e la lb ls bb es h = (λ x. (omega arith, omega arith), λ x. (omega arith, omega arith))

nat_rest_low : (a b : ℕ) → a < 2 ^ 64 → b < 2 ^ 64 → rest_flags a b < 2 ^ 63 → (a < 2 ^ 63 → 2 ^ 63 ≤ b → a + 2 ^ 64 < b + 2 ^ 63) × (2 ^ 63 ≤ a → b < 2 ^ 63 → b + 2 ^ 63 ≤ a)
nat_rest_low a b ha hb h =
    let s : rest_of a b < 2 ^ 64 = omega arith in
    rest_low a b (rest_of a b) (rest_flags a b) _ _ _ _ (is_top a ha) (is_top b hb) (is_top (rest_of a b) s) (is_top (rest_flags a b) (flags_lt a a b (rest_of a b) ha hb)) (top_bit a a b (rest_of a b)) (bit_at-lt a 63) (bit_at-lt b 63) (bit_at-lt (rest_of a b) 63) hb refl h

nat_rest_high : (a b : ℕ) → a < 2 ^ 64 → b < 2 ^ 64 → 2 ^ 63 ≤ rest_flags a b → (a < 2 ^ 63 → (2 ^ 63 ≤ b) × (b + 2 ^ 63 ≤ a + 2 ^ 64)) × (2 ^ 63 ≤ a → (b < 2 ^ 63) × (a < b + 2 ^ 63))
nat_rest_high a b ha hb h =
    let s : rest_of a b < 2 ^ 64 = omega arith in
    rest_high a b (rest_of a b) (rest_flags a b) _ _ _ _ (is_top a ha) (is_top b hb) (is_top (rest_of a b) s) (is_top (rest_flags a b) (flags_lt a a b (rest_of a b) ha hb)) (top_bit a a b (rest_of a b)) (bit_at-lt a 63) (bit_at-lt b 63) (bit_at-lt (rest_of a b) 63) hb refl h

rest_by_flags : (x y : ℤ) → FitsSigned w64 x → FitsSigned w64 y → rest_flags (of_z w64 x) (of_z w64 y) < 2 ^ 63 → FitsSigned w64 (x -ℤ y) × (to_z w64 (rest_of (of_z w64 x) (of_z w64 y)) ≡ x -ℤ y)
rest_by_flags x y hx hy h =
    let n : (of_z w64 x < 2 ^ 63 → 2 ^ 63 ≤ of_z w64 y → of_z w64 x + 2 ^ 64 < of_z w64 y + 2 ^ 63) × (2 ^ 63 ≤ of_z w64 x → of_z w64 y < 2 ^ 63 → of_z w64 y + 2 ^ 63 ≤ of_z w64 x) = nat_rest_low (of_z w64 x) (of_z w64 y) (bits_lt x hx) (bits_lt y hy) h in
    (grind (arith, ints), grind (arith, ints))

no_rest_by_flags : (x y : ℤ) → FitsSigned w64 x → FitsSigned w64 y → 2 ^ 63 ≤ rest_flags (of_z w64 x) (of_z w64 y) → FitsSigned w64 (x -ℤ y) → ⊥
no_rest_by_flags x y hx hy h f =
    let n : (of_z w64 x < 2 ^ 63 → (2 ^ 63 ≤ of_z w64 y) × (of_z w64 y + 2 ^ 63 ≤ of_z w64 x + 2 ^ 64)) × (2 ^ 63 ≤ of_z w64 x → (of_z w64 y < 2 ^ 63) × (of_z w64 x < of_z w64 y + 2 ^ 63)) = nat_rest_high (of_z w64 x) (of_z w64 y) (bits_lt x hx) (bits_lt y hy) h in
    grind (arith, ints)

pub rest_fits : (x y : ℤ) → FitsSigned w64 x → FitsSigned w64 y → lt_z (to_z w64 (rest_flags (of_z w64 x) (of_z w64 y))) (pos 0) ≡ false → FitsSigned w64 (x -ℤ y) × (to_z w64 (rest_of (of_z w64 x) (of_z w64 y)) ≡ x -ℤ y)
rest_fits x y hx hy e = rest_by_flags x y hx hy (top_of_other (rest_flags (of_z w64 x) (of_z w64 y)) (flags_lt (of_z w64 x) (of_z w64 x) (of_z w64 y) (rest_of (of_z w64 x) (of_z w64 y)) (bits_lt x hx) (bits_lt y hy)) e)

pub rest_beyond : (x y : ℤ) → FitsSigned w64 x → FitsSigned w64 y → lt_z (to_z w64 (rest_flags (of_z w64 x) (of_z w64 y))) (pos 0) ≡ true → FitsSigned w64 (x -ℤ y) → ⊥
rest_beyond x y hx hy e = no_rest_by_flags x y hx hy (top_of_negative (rest_flags (of_z w64 x) (of_z w64 y)) (flags_lt (of_z w64 x) (of_z w64 x) (of_z w64 y) (rest_of (of_z w64 x) (of_z w64 y)) (bits_lt x hx) (bits_lt y hy)) e)

not_negative : (n : ℕ) → n < 2 ^ 64 → pos 0 ≤ℤ to_z w64 n → n < 2 ^ 63
not_negative n h g = grind (arith, ints)

pub in_range-fits : (z : ℤ) → FitsSigned w64 z → in_range z ≡ Ok z
in_range-fits (pos n) f = ap (λ b. cond b (Ok (pos n)) (Err Limit)) (lt-ltb n (2 ^ 63) (omega (arith, ints)))
in_range-fits (negsuc n) f = ap (λ b. cond b (Ok (negsuc n)) (Err Limit)) (lt-ltb n (2 ^ 63) (omega (arith, ints)))

pub tried_sum : (x y : ℤ) → FitsSigned w64 x → FitsSigned w64 y → pos 0 ≤ℤ to_z w64 (sum_flags (of_z w64 x) (of_z w64 y)) → in_range (x +ℤ y) ≡ Ok (to_z w64 (sum_of (of_z w64 x) (of_z w64 y)))
tried_sum x y hx hy h =
    let f = fits_by_flags x y hx hy (not_negative (sum_flags (of_z w64 x) (of_z w64 y)) (flags_within x y hx hy) h) in
    in_range-fits (x +ℤ y) f.0 ∙ ap (λ z. Ok z) (sym f.1)

pub beyond_range : (z : ℤ) → (FitsSigned w64 z → ⊥) → in_range z ≡ Err Limit
beyond_range (pos n) f = ap (λ b. cond b (Ok (pos n)) (Err Limit)) (le-ltb n (2 ^ 63) (grind (arith, ints)))
beyond_range (negsuc n) f = ap (λ b. cond b (Ok (negsuc n)) (Err Limit)) (le-ltb n (2 ^ 63) (grind (arith, ints)))

pub tried_rest : (x y : ℤ) → FitsSigned w64 x → FitsSigned w64 y → pos 0 ≤ℤ to_z w64 (rest_flags (of_z w64 x) (of_z w64 y)) → in_range (x -ℤ y) ≡ Ok (to_z w64 (rest_of (of_z w64 x) (of_z w64 y)))
tried_rest x y hx hy h =
    let f = rest_by_flags x y hx hy (not_negative (rest_flags (of_z w64 x) (of_z w64 y)) (flags_lt (of_z w64 x) (of_z w64 x) (of_z w64 y) (rest_of (of_z w64 x) (of_z w64 y)) (bits_lt x hx) (bits_lt y hy)) h) in
    in_range-fits (x -ℤ y) f.0 ∙ ap (λ z. Ok z) (sym f.1)

-- a sum or a difference whose flag is negative leaves the range
pub left_sum : (x y : ℤ) → FitsSigned w64 x → FitsSigned w64 y → lt_z (to_z w64 (sum_flags (of_z w64 x) (of_z w64 y))) (pos 0) ≡ true → in_range (x +ℤ y) ≡ Err Limit
left_sum x y hx hy e = beyond_range (x +ℤ y) (sum_beyond x y hx hy e)

pub left_rest : (x y : ℤ) → FitsSigned w64 x → FitsSigned w64 y → lt_z (to_z w64 (rest_flags (of_z w64 x) (of_z w64 y))) (pos 0) ≡ true → in_range (x -ℤ y) ≡ Err Limit
left_rest x y hx hy e = beyond_range (x -ℤ y) (rest_beyond x y hx hy e)

-- a flag that is negative where it is said that the number leaves 64 bits
pub tried_product : (z v : ℤ) (leaves : Bool) → v ≡ int_wrap w64 z → FalseIff leaves (FitsSigned w64 z) → pos 0 ≤ℤ to_z w64 (of_z w64 (pos 0 -ℤ to_z w64 (bool_byte leaves))) → in_range z ≡ Ok (to_z w64 (of_z w64 v))
tried_product z v true e f h = absurd (omega (arith, ints))
tried_product z v false e f h =
    in_range-fits z f ∙ ap (λ (w : ℤ). Ok w) (sym (to_z-of_z w64 z f) ∙ sym (ap (λ (w : ℤ). to_z w64 (of_z w64 w)) (e ∙ int_wrap_fits w64 z f)))

pub left_product : (z : ℤ) (leaves : Bool) → FalseIff leaves (FitsSigned w64 z) → to_z w64 (of_z w64 (pos 0 -ℤ to_z w64 (bool_byte leaves))) <ℤ pos 0 → in_range z ≡ Err Limit
left_product z true f h = beyond_range z f
left_product z false f h = absurd (omega (arith, ints))
