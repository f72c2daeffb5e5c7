-- Exact quotients by a product with an inverse among numbers of 64 bits.
use Rattle.std.proofs.Common.{◌≡◌, ◌⊎◌, inl, inr, ℕ, zero, suc, ℤ, pos, negsuc, neg_ℤ, ◌≤ℤ◌, ◌<ℤ◌, ◌+◌, ◌-◌, ◌*◌, ◌/◌, ◌%◌, ◌^◌, ◌<◌, ◌≤◌, Ok, FitsSigned, List, length, get_or, set, to_z, of_z, refl, ap, sym, ◌∙◌, subst, arith}
use Rattle.std.specs.Prelude.{unsigned_abs, bit_or}
use Rattle.std.specs.Int.{w64}
use Rattle.std.specs.Int.Count.{count_leading_zeros}
use Rattle.std.proofs.Math.Nat.{mul_assoc, mul_comm, add-mul, mul-add, mul-le-mul_left, mul-le-mul_right, eq-or-lt_of_le, le_of_mul-le-mul_right, mod-le}
use Rattle.std.proofs.lemmas.List.{get_or-set_same, get_or-set_other}
use Rattle.std.proofs.lemmas.Int.{ints, to_z-of_z}
use Rattle.std.proofs.lemmas.Nat.{mul-mod_first, mul-mod_second, shr_split, leading_top, pow-add, pow_pos, or_mod, le_or_l, le_or_r}
use Rattle.apl_scalar.specs.Functions.{quotient}
use Rattle.apl_scalar.proofs.Multiples.{exact_value}

-- a power of two by the number of leading zeros
some_zeros : (d r j : ℕ) → r + suc j ≡ 64 → 2 ^ j ≤ d → d < 2 ^ 63 → 1 ≤ r
some_zeros d zero j e l h = let m : 2 ^ 63 ≤ d = subst (λ (k : ℕ). 2 ^ k ≤ d) (let f : j ≡ 63 = omega arith in f) l in absurd (omega arith)
some_zeros d (suc r) j e l h = omega arith

half_below : (d r j : ℕ) → r + suc j ≡ 63 → d < 2 ^ suc j → 1 * 2 ^ r % 2 ^ 64 * d < 2 ^ 63
half_below d r j e l =
    let whole : 2 ^ r * 2 ^ suc j ≡ 2 ^ 63 = sym (pow-add 2 r (suc j)) ∙ ap (λ k. 2 ^ k) e in
    let most : 2 ^ r * (d + 1) ≤ 2 ^ r * 2 ^ suc j = mul-le-mul_left (2 ^ r) (omega arith) in
    let parts : 2 ^ r * (d + 1) ≡ 2 ^ r * d + 2 ^ r * 1 = mul-add (2 ^ r) d 1 in
    let some : 0 < 2 ^ r = pow_pos r in
    let low : 1 * 2 ^ r % 2 ^ 64 * d ≤ 2 ^ r * d = mul-le-mul_right d (omega (arith, mod-le (1 * 2 ^ r) (2 ^ 64))) in
    omega arith

pub has_zeros : (d : ℕ) → 1 < d → d < 2 ^ 63 → 1 ≤ count_leading_zeros 64 d
has_zeros d o l = let t = leading_top 64 d (omega arith) (omega arith) in some_zeros d (count_leading_zeros 64 d) t.0 t.1 t.2 l

pub half_fits : (d : ℕ) → 1 < d → d < 2 ^ 63 → 1 * 2 ^ (count_leading_zeros 64 d - 1) % 2 ^ 64 * d < 2 ^ 63
half_fits d o l = let t = leading_top 64 d (omega arith) (omega arith) in half_below d (count_leading_zeros 64 d - 1) t.0 (omega (arith, t.1, has_zeros d o l)) t.3

-- a number's product with the inverse is one whose product with the odd number is the number again
pub again : (n m o : ℕ) → n < 2 ^ 64 → m * o % 2 ^ 64 ≡ 1 → n * m % 2 ^ 64 * o % 2 ^ 64 ≡ n
again n m o l h =
    mul-mod_first (n * m) o (2 ^ 64)
    ∙ ap (λ k. k % 2 ^ 64) (mul_assoc n m o)
    ∙ sym (mul-mod_second n (m * o) (2 ^ 64))
    ∙ ap (λ k. n * k % 2 ^ 64) h
    ∙ omega arith

-- a product that is not negative
up_whole : (p h o n : ℕ) → p * o % 2 ^ 64 ≡ n → p < h → h * o < 2 ^ 63 → n ≡ p * o
up_whole p h o n e l f = let b : p * o ≤ h * o = mul-le-mul_right o (omega arith) in omega arith

-- and one that is
down_whole : (p k h o n : ℕ) → p + k ≡ 2 ^ 64 → 0 < k → k ≤ h → 0 < o → p * o % 2 ^ 64 ≡ n → h * o < 2 ^ 63 → n + k * o ≡ 2 ^ 64
down_whole p k h o n s some l one e f =
    let b : k * o ≤ h * o = mul-le-mul_right o l in
    let a : 1 * o ≤ k * o = mul-le-mul_right o some in
    let t : p * o + k * o ≡ 2 ^ 64 * o = sym (add-mul p k o) ∙ ap (λ q. q * o) s in
    omega arith

-- a shifted number that is more than a shifted half, and one that is less
up_part : (r half p D : ℕ) → r * D ≡ p + half * D → 0 < D → (e : ℕ) × (r ≡ e + half) × (e * D ≡ p)
up_part r half p D h some =
    let b : half * D ≤ r * D = omega arith in
    let l : half ≤ r = le_of_mul-le-mul_right b some in
    let e : r ≡ (r - half) + half = omega arith in
    let s : r * D ≡ (r - half) * D + half * D = ap (λ q. q * D) e ∙ add-mul (r - half) half D in
    (r - half, e, omega arith)

-- a number by its 64 bits
signed_up : (x : ℤ) (n : ℕ) → FitsSigned w64 x → of_z w64 x ≡ n → n < 2 ^ 63 → (pos 0 ≤ℤ x) × (unsigned_abs x ≡ n)
signed_up (pos m) n f e l = (omega (arith, ints), omega (arith, ints))
signed_up (negsuc m) n f e l = absurd (omega (arith, ints))

signed_down : (x : ℤ) (n : ℕ) → FitsSigned w64 x → of_z w64 x ≡ n → 2 ^ 63 ≤ n → (x <ℤ pos 0) × (unsigned_abs x + n ≡ 2 ^ 64)
signed_down (pos m) n f e l = absurd (omega (arith, ints))
signed_down (negsuc m) n f e l = (omega (arith, ints), omega (arith, ints))

value_up : (r half e : ℕ) → r ≡ e + half → e < 2 ^ 63 → half < 2 ^ 63 → to_z w64 ((r + (2 ^ 64 - half)) % 2 ^ 64) ≡ pos e
value_up r half e h l f = ap (to_z w64) (let s : (r + (2 ^ 64 - half)) % 2 ^ 64 ≡ e = omega arith in s) ∙ plain e l
  where
    plain : (e : ℕ) → e < 2 ^ 63 → to_z w64 e ≡ pos e
    plain e l = omega (arith, ints)

value_down : (r half e : ℕ) → half ≡ e + r → 0 < e → half < 2 ^ 63 → to_z w64 ((r + (2 ^ 64 - half)) % 2 ^ 64) ≡ neg_ℤ (pos e)
value_down r half e h o f = ap (to_z w64) (let s : (r + (2 ^ 64 - half)) % 2 ^ 64 ≡ 2 ^ 64 - e = omega arith in s) ∙ plain e o (omega arith)
  where
    plain : (e : ℕ) → 0 < e → e < 2 ^ 63 → to_z w64 (2 ^ 64 - e) ≡ neg_ℤ (pos e)
    plain zero o l = absurd (omega arith)
    plain (suc e) o l = ap (to_z w64) (let b : 2 ^ 64 - suc e ≡ of_z w64 (negsuc e) = omega (arith, ints) in b) ∙ to_z-of_z w64 (negsuc e) (omega (arith, ints))

fits_up : (e : ℕ) → e < 2 ^ 63 → FitsSigned w64 (pos e)
fits_up e l = omega (arith, ints)

fits_down : (e : ℕ) → e < 2 ^ 63 → FitsSigned w64 (neg_ℤ (pos e))
fits_down zero l = omega (arith, ints)
fits_down (suc e) l = omega (arith, ints)

-- by both parts of the divisor
both_parts : (e o D d : ℕ) → o * D ≡ d → e * D * o ≡ e * d
both_parts e o D d h = mul_assoc e D o ∙ ap (λ q. e * q) (mul_comm D o ∙ h)

pub at_least : (e d : ℕ) → 0 < d → e ≤ e * d
at_least e d o = let l : e * 1 ≤ e * d = mul-le-mul_left e (omega arith) in omega arith

exact_up : (x : ℤ) (r half p o D d : ℕ) → FitsSigned w64 x → 0 < D → 0 < d → o * D ≡ d → half * d < 2 ^ 63 → p * o % 2 ^ 64 ≡ of_z w64 x → r * D ≡ p + half * D → p < half * D →
    quotient x (pos d) ≡ Ok (to_z w64 ((r + (2 ^ 64 - half)) % 2 ^ 64))
exact_up x r half p o D d fx sD sd w f a h l =
    let t = up_part r half p D h sD in
    let whole : of_z w64 x ≡ p * o = up_whole p (half * D) o (of_z w64 x) a l (omega (arith, both_parts half o D d w)) in
    let n : of_z w64 x ≡ t.0 * d = whole ∙ ap (λ q. q * o) (sym t.2) ∙ both_parts t.0 o D d w in
    let b : p * o ≤ half * D * o = mul-le-mul_right o (omega arith) in
    let low : t.0 * d < 2 ^ 63 = omega (arith, both_parts half o D d w) in
    let le : t.0 < 2 ^ 63 = omega (arith, at_least t.0 d sd) in
    let lh : half < 2 ^ 63 = omega (arith, at_least half d sd) in
    let s = signed_up x (t.0 * d) fx n low in
    exact_value x d t.0 (pos t.0) sd (fits_up t.0 le) s.1 (λ _. refl) (λ g. absurd (omega (arith, ints, g, s.0)))
    ∙ ap (λ z. Ok z) (sym (value_up r half t.0 t.1 le lh))

exact_down : (x : ℤ) (r half p k o D d : ℕ) → FitsSigned w64 x → 0 < D → 0 < d → 0 < o → o * D ≡ d → half * d < 2 ^ 63 → p * o % 2 ^ 64 ≡ of_z w64 x → p + k ≡ 2 ^ 64 → 0 < k →
    half * D ≡ k + r * D → quotient x (pos d) ≡ Ok (to_z w64 ((r + (2 ^ 64 - half)) % 2 ^ 64))
exact_down x r half p k o D d fx sD sd so w f a c sk h =
    let t = up_part half r k D h sD in
    let hd : half * D * o ≡ half * d = both_parts half o D d w in
    let whole : of_z w64 x + k * o ≡ 2 ^ 64 = down_whole p k (half * D) o (of_z w64 x) c sk (omega arith) so a (omega arith) in
    let n : k * o ≡ t.0 * d = ap (λ q. q * o) (sym t.2) ∙ both_parts t.0 o D d w in
    let b : k * o ≤ half * D * o = mul-le-mul_right o (omega arith) in
    let low : t.0 * d < 2 ^ 63 = omega arith in
    let le : t.0 < 2 ^ 63 = omega (arith, at_least t.0 d sd) in
    let lh : half < 2 ^ 63 = omega (arith, at_least half d sd) in
    let some : 0 < t.0 = pos_of t.0 k D t.2 sk in
    let s = signed_down x (of_z w64 x) fx refl (omega arith) in
    exact_value x d t.0 (neg_ℤ (pos t.0)) sd (fits_down t.0 le) (omega (arith, s.1)) (λ g. absurd (omega (arith, ints, g, s.0))) (λ _. refl)
    ∙ ap (λ z. Ok z) (sym (value_down r half t.0 t.1 some lh))
  where
    pos_of : (e k D : ℕ) → e * D ≡ k → 0 < k → 0 < e
    pos_of zero k D h l = absurd (omega arith)
    pos_of (suc e) k D h l = omega arith

-- of two numbers one is below the other, or not
either_way : (a b : ℕ) → (a < b) ⊎ (b ≤ a)
either_way a zero = inr (omega arith)
either_way zero (suc b) = inl (omega arith)
either_way (suc a) (suc b) = next (either_way a b)
  where
    next : (a < b) ⊎ (b ≤ a) → (suc a < suc b) ⊎ (suc b ≤ suc a)
    next (inl l) = inl (omega arith)
    next (inr l) = inr (omega arith)

by_sum : (x : ℤ) (r half p o D d R : ℕ) → FitsSigned w64 x → p < 2 ^ 64 → 0 < D → 0 < d → 0 < o → o * D ≡ d → half * d < 2 ^ 63 → half * D < 2 ^ 63 → p * o % 2 ^ 64 ≡ of_z w64 x → R ≡ (p + half * D) % 2 ^ 64 → r * D ≡ R → R < 2 * (half * D) →
    (p + half * D < 2 ^ 64) ⊎ (2 ^ 64 ≤ p + half * D) → quotient x (pos d) ≡ Ok (to_z w64 ((r + (2 ^ 64 - half)) % 2 ^ 64))
by_sum x r half p o D d R fx lp sD sd so w f fD a eR er l (inl u) = exact_up x r half p o D d fx sD sd w f a (omega arith) (omega arith)
by_sum x r half p o D d R fx lp sD sd so w f fD a eR er l (inr u) = exact_down x r half p (2 ^ 64 - p) o D d fx sD sd so w f a (omega arith) (omega arith) (omega arith)

-- the number that is made of a number is its exact quotient, where the sum is below twice the reach and ends in zeros
pub exact : (x : ℤ) (m s half reach d R : ℕ) → FitsSigned w64 x → m * (d / 2 ^ s) % 2 ^ 64 ≡ 1 → d / 2 ^ s * 2 ^ s ≡ d → 0 < d → half * d < 2 ^ 63 → half * 2 ^ s ≡ reach →
    R ≡ (of_z w64 x * m % 2 ^ 64 + reach) % 2 ^ 64 → R < 2 * reach → R % 2 ^ s ≡ 0 → quotient x (pos d) ≡ Ok (to_z w64 ((R / 2 ^ s + (2 ^ 64 - half)) % 2 ^ 64))
exact x m s half reach d R fx i w sd f h eR l z =
    let so : 0 < d / 2 ^ s = pos_of (d / 2 ^ s) (2 ^ s) d w sd in
    let n : of_z w64 x < 2 ^ 64 = omega (arith, ints) in
    let le : half * 2 ^ s ≤ half * 2 ^ s * (d / 2 ^ s) = at_least (half * 2 ^ s) (d / 2 ^ s) so in
    by_sum x (R / 2 ^ s) half (of_z w64 x * m % 2 ^ 64) (d / 2 ^ s) (2 ^ s) d R fx (omega arith) (pow_pos s) sd so w f (omega (arith, both_parts half (d / 2 ^ s) (2 ^ s) d w))
    (again (of_z w64 x) m (d / 2 ^ s) n i) (eR ∙ ap (λ q. (of_z w64 x * m % 2 ^ 64 + q) % 2 ^ 64) (sym h)) (omega (arith, shr_split R s)) (omega arith) (either_way (of_z w64 x * m % 2 ^ 64 + half * 2 ^ s) (2 ^ 64))
  where
    pos_of : (e D k : ℕ) → e * D ≡ k → 0 < k → 0 < e
    pos_of zero D k h l = absurd (omega arith)
    pos_of (suc e) D k h l = omega arith

-- what is gathered of two numbers has bits beyond where either has
pub no_low_l : (a b k : ℕ) → bit_or a b % 2 ^ k ≡ 0 → a % 2 ^ k ≡ 0
no_low_l a b k h = omega (arith, or_mod a b k, le_or_l (a % 2 ^ k) (b % 2 ^ k))

pub no_low_r : (a b k : ℕ) → bit_or a b % 2 ^ k ≡ 0 → b % 2 ^ k ≡ 0
no_low_r a b k h = omega (arith, or_mod a b k, le_or_r (a % 2 ^ k) (b % 2 ^ k))

-- a number that is shifted out and in again has no bits below
pub no_low : (n k : ℕ) → n / 2 ^ k * 2 ^ k % 2 ^ 64 ≡ n → n < 2 ^ 64 → n % 2 ^ k ≡ 0
no_low n k h l = omega (arith, shr_split n k)

-- the reach stays below 2 ^ 63
pub reach_low : (d s half : ℕ) → d / 2 ^ s * 2 ^ s ≡ d → 0 < d → half * d < 2 ^ 63 → half * 2 ^ s < 2 ^ 63
reach_low d s half w o h =
    let l : half * 2 ^ s ≤ half * d = mul-le-mul_left half (part_le (d / 2 ^ s) (2 ^ s) d w o) in
    omega arith
  where
    part_le : (e D d : ℕ) → e * D ≡ d → 0 < d → D ≤ d
    part_le zero D d h o = absurd (omega arith)
    part_le (suc e) D d h o = let l : 1 * D ≤ suc e * D = mul-le-mul_right D (omega arith) in omega arith

-- one more number is written
pub each_step : (P : ℕ → ℤ → Type 0) (i : ℕ) (out : List ℤ) (v : ℤ) → i < length out → ((k : ℕ) → k < i → P k (get_or out k (pos 0))) → P i v → (k : ℕ) → k < i + 1 → P k (get_or (set out i v) k (pos 0))
each_step P i out v l before now k h = at (eq-or-lt_of_le (let m : k ≤ i = omega arith in m))
  where
    at : (k ≡ i) ⊎ (k < i) → P k (get_or (set out i v) k (pos 0))
    at (inl e) = subst (λ (j : ℕ). P j (get_or (set out i v) j (pos 0))) (sym e) (subst (λ (z : ℤ). P i z) (sym (get_or-set_same out i v (pos 0) l)) now)
    at (inr m) = subst (λ (z : ℤ). P k z) (sym (get_or-set_other out i k v (pos 0) (λ e. omega arith))) (before k m)
