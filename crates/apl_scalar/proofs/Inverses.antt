-- Division by a product with a reciprocal.
use Rattle.std.proofs.Common.{◌≡◌, ℕ, ◌+◌, ◌-◌, ◌*◌, ◌/◌, ◌%◌, ◌^◌, ◌<◌, ◌≤◌, ap, sym, ◌∙◌, arith}
use Rattle.std.proofs.Math.Nat.{mul_assoc, mul_comm, add-mul, mul-add, mul-le-mul_left, mul-le-mul_right, mod-eq_of_lt, add-mul-mod_self_right}

-- a product with a reciprocal, by its high half q and its low half e
parts : (u m q e d : ℕ) → u * m ≡ q * 2 ^ 64 + e → u * (m * d) ≡ q * d * 2 ^ 64 + e * d
parts u m q e d h =
    sym (mul_assoc u m d) ∙ ap (λ p. p * d) h ∙ add-mul (q * 2 ^ 64) e d ∙ ap (λ p. p + e * d) (turn q d)
  where
    turn : (q d : ℕ) → q * 2 ^ 64 * d ≡ q * d * 2 ^ 64
    turn q d = mul_assoc q (2 ^ 64) d ∙ ap (λ p. q * p) (mul_comm (2 ^ 64) d) ∙ sym (mul_assoc q d (2 ^ 64))

-- by a reciprocal that is not too large no quotient is
below : (u m q e d : ℕ) → u * m ≡ q * 2 ^ 64 + e → m * d ≤ 2 ^ 64 → q * d ≤ u
below u m q e d h l =
    let p : u * (m * d) ≡ q * d * 2 ^ 64 + e * d = parts u m q e d h in
    let r : u * (m * d) ≤ u * 2 ^ 64 = mul-le-mul_left u l in
    omega arith

-- and by one that is short of it by less than the divisor the quotient is at most 1 too small
close : (u m q e d : ℕ) → u * m ≡ q * 2 ^ 64 + e → e < 2 ^ 64 → u < 2 ^ 64 → 0 < d → 2 ^ 64 ≤ m * d + d → u < q * d + d + d
close u m q e d h s t o l =
    let p : u * (m * d) ≡ q * d * 2 ^ 64 + e * d = parts u m q e d h in
    let r : u * 2 ^ 64 ≤ u * (m * d + d) = mul-le-mul_left u l in
    let a : u * (m * d + d) ≡ u * (m * d) + u * d = mul-add u (m * d) d in
    let b : (e + 1) * d ≤ 2 ^ 64 * d = mul-le-mul_right d (omega arith) in
    let c : (u + 1) * d ≤ 2 ^ 64 * d = mul-le-mul_right d (omega arith) in
    let f : (e + 1) * d ≡ e * d + 1 * d = add-mul e 1 d in
    let g : (u + 1) * d ≡ u * d + 1 * d = add-mul u 1 d in
    omega arith

halves : (n : ℕ) → n ≡ n / 2 ^ 64 * 2 ^ 64 + n % 2 ^ 64
halves n = omega arith

pub quotient_below : (u m d : ℕ) → m * d ≤ 2 ^ 64 → u * m / 2 ^ 64 * d ≤ u
quotient_below u m d l = below u m (u * m / 2 ^ 64) (u * m % 2 ^ 64) d (halves (u * m)) l

pub quotient_close : (u m d : ℕ) → u < 2 ^ 64 → 0 < d → 2 ^ 64 ≤ m * d + d → u < u * m / 2 ^ 64 * d + d + d
quotient_close u m d t o l = close u m (u * m / 2 ^ 64) (u * m % 2 ^ 64) d (halves (u * m)) (omega arith) t o l

-- what is left after a multiple of the divisor
pub rest_after : (u q d r : ℕ) → u ≡ r + q * d → r < d → r ≡ u % d
rest_after u q d r h l = sym (mod-eq_of_lt l) ∙ sym (add-mul-mod_self_right r q d) ∙ ap (λ n. n % d) (sym h)

pub rest_same : (u q d : ℕ) → q * d ≤ u → u - q * d < d → u - q * d ≡ u % d
rest_same u q d l s = rest_after u q d (u - q * d) (omega arith) s

pub rest_less : (u q d : ℕ) → q * d ≤ u → d ≤ u - q * d → u < q * d + d + d → u - q * d - d ≡ u % d
rest_less u q d o l s = rest_after u (q + 1) d (u - q * d - d) (let e : (q + 1) * d ≡ q * d + 1 * d = add-mul q 1 d in omega arith) (omega arith)
