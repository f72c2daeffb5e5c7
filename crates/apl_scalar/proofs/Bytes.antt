-- Division of bytes, whose bits are taken from the highest one on.
use Rattle.std.proofs.Common.{◌≡◌, ℕ, ◌+◌, ◌-◌, ◌*◌, ◌/◌, ◌%◌, ◌^◌, ◌<◌, ◌≤◌, ℤ, pos, negsuc, neg_ℤ, ◌≤ℤ◌, ◌<ℤ◌, Ok, FitsSigned, ap, sym, ◌∙◌, subst, arith}
use Rattle.std.specs.Prelude.{unsigned_abs}
use Rattle.std.specs.Int.{w8}
use Rattle.std.proofs.lemmas.Int.{ints}
use Rattle.std.proofs.lemmas.Nat.{shr-shr, shr_le}
use Rattle.apl_scalar.specs.Functions.{quotient}
use Rattle.apl_scalar.proofs.Exact.{at_least}
use Rattle.apl_scalar.proofs.Multiples.{exact_value}

-- what is left before a bit is half of what is left with it
half : (n p : ℕ) → p < 8 → n / 2 ^ (8 - p) ≡ n / 2 ^ (7 - p) / 2
half n p h = ap (λ k. n / 2 ^ k) (let e : 8 - p ≡ 7 - p + 1 = omega arith in e) ∙ sym (shr-shr n (7 - p) 1)

-- with one more bit
pub next_bit : (n p w : ℕ) → p < 8 → w ≡ 2 * (n / 2 ^ (8 - p)) + n / 2 ^ (7 - p) % 2 → w ≡ n / 2 ^ (8 - (p + 1))
next_bit n p w h e =
    let m : n / 2 ^ (8 - (p + 1)) ≡ n / 2 ^ (7 - p) = ap (λ k. n / 2 ^ k) (let f : 8 - (p + 1) ≡ 7 - p = omega arith in f) in
    omega (arith, half n p h)

-- a quotient of less than all bits
pub below_half : (n p q d r : ℕ) → p < 8 → n < 256 → 0 < d → q * d + r ≡ n / 2 ^ (8 - p) → q < 128
below_half n p q d r h l o e =
    let m : n / 2 ^ (7 - p) ≤ n = shr_le n (7 - p) in
    omega (arith, half n p h, at_least q d o)

up_most : (x : ℤ) → FitsSigned w8 x → pos 0 ≤ℤ x → unsigned_abs x < 128
up_most (pos m) f g = omega (arith, ints)
up_most (negsuc m) f g = absurd (omega (arith, ints))

down_most : (x : ℤ) → FitsSigned w8 x → x <ℤ pos 0 → unsigned_abs x ≤ 128
down_most (pos m) f g = absurd (omega (arith, ints))
down_most (negsuc m) f g = omega (arith, ints)

-- a number with the sign of the dividend is the quotient, where nothing is left
pub quotient_of : (x y v : ℤ) (q d r : ℕ) → FitsSigned w8 x → FitsSigned w8 v → 0 < d → pos d ≡ y → r ≡ 0 → q * d + r ≡ unsigned_abs x →
    (pos 0 ≤ℤ x → q < 128 → v ≡ pos q) → (x <ℤ pos 0 → q ≤ 128 → v ≡ neg_ℤ (pos q)) → quotient x y ≡ Ok v
quotient_of x y v q d r f fv o e z w up down =
    let whole : unsigned_abs x ≡ q * d = omega arith in
    let least : q ≤ q * d = at_least q d o in
    subst (λ (y : ℤ). quotient x y ≡ Ok v) e (exact_value x d q v o (omega (arith, ints)) whole (λ g. up g (omega (arith, least, whole, up_most x f g))) (λ g. down g (omega (arith, least, whole, down_most x f g))))
