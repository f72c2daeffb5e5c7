-- How powers and factorials grow.
use Rattle.std.proofs.Common.{◌≡◌, ◌≢◌, ℕ, zero, suc, ℤ, pos, negsuc, neg_ℤ, ◌*◌, ◌%◌, ◌^◌, ◌<◌, ◌≤◌, ◌≤ℤ◌, ◌<ℤ◌, ◌⊎◌, inl, inr, Bool, true, false, cond, List, [], ◌∷◌, map, get_or, Ok, Err, FitsSigned, to_z, of_z, lit≤, refl, ap, sym, ◌∙◌, arith}
use Rattle.std.specs.Prelude.{nat_eq, unsigned_abs, int_rem}
use Rattle.std.specs.Int.{w64, int_pow}
use Rattle.std.specs.List.{range_with_len}
use Rattle.std.proofs.Math.Nat.{pow-suc, pow-zero, mul-one, mul-zero, suc-mul, pow-le-pow_left, pow-le-pow_right}
use Rattle.std.proofs.lemmas.List.{get_or-map}
use Rattle.std.proofs.lemmas.List.FromFn.{get_or-map-range_with_len}
use Rattle.std.proofs.lemmas.Bool.{cases_lt, eqb-true}
use Rattle.std.proofs.lemmas.Int.{ints}
use Rattle.apl_faults.specs.declared.fault.Fault.TheVariants.{Domain, Limit}
use Rattle.apl_scalar.specs.Functions.{in_range, is_unit, factorial, factorial_of, power}
use Rattle.apl_scalar.proofs.Signs.{beyond_range}

one_power : (n : ℕ) → 1 ^ n ≡ 1
one_power zero = pow-zero 1
one_power (suc n) = pow-suc 1 n ∙ mul-one (1 ^ n) ∙ one_power n

pub power_one : (y : ℤ) → power (pos 1) y ≡ Ok (pos 1)
unfolding power
power_one (pos n) = ap (λ m. in_range (pos m)) (one_power n)
power_one (negsuc n) = ap (λ m. Ok (pos m)) (one_power (suc n))

-- the powers of -1 by the parity of the exponent
pub power_even : (y : ℤ) → unsigned_abs y % 2 ≡ 0 → power (negsuc 0) y ≡ Ok (pos 1)
unfolding power
power_even (pos n) e = ap (λ r. in_range (cond (nat_eq r 0) (pos (1 ^ n)) (neg_ℤ (pos (1 ^ n))))) e ∙ ap (λ m. in_range (pos m)) (one_power n)
power_even (negsuc n) e = ap (λ r. Ok (cond (nat_eq r 0) (pos (1 ^ suc n)) (neg_ℤ (pos (1 ^ suc n))))) e ∙ ap (λ m. Ok (pos m)) (one_power (suc n))

pub power_odd : (y : ℤ) → unsigned_abs y % 2 ≡ 1 → power (negsuc 0) y ≡ Ok (negsuc 0)
unfolding power
power_odd (pos n) e = ap (λ r. in_range (cond (nat_eq r 0) (pos (1 ^ n)) (neg_ℤ (pos (1 ^ n))))) e ∙ ap (λ m. in_range (neg_ℤ (pos m))) (one_power n)
power_odd (negsuc n) e = ap (λ r. Ok (cond (nat_eq r 0) (pos (1 ^ suc n)) (neg_ℤ (pos (1 ^ suc n))))) e ∙ ap (λ m. Ok (neg_ℤ (pos m))) (one_power (suc n))

not_one : (n : ℕ) → n ≢ 1 → nat_eq n 1 ≡ false
not_one n h = cases (nat_eq n 1) (λ e. h (eqb-true n 1 e))
  where
    cases : (b : Bool) → b ≢ true → b ≡ false
    cases true g = absurd (g refl)
    cases false g = refl

not_unit : (x : ℤ) → x ≢ pos 1 → x ≢ negsuc 0 → is_unit x ≡ false
not_unit (pos n) p q = not_one n (λ e. p (ap pos e))
not_unit (negsuc n) p q = not_one (suc n) (λ e. q (omega (arith, ints)))

-- only 1 and -1 have negative powers
pub power_negative : (x y : ℤ) → x ≢ pos 1 → x ≢ negsuc 0 → y <ℤ pos 0 → power x y ≡ Err Domain
unfolding power
power_negative x (pos n) p q h = absurd (omega (arith, ints))
power_negative x (negsuc n) p q h = ap (λ b. cond b (Ok (int_pow x (suc n))) (Err Domain)) (not_unit x p q)

pub power_of_zero : (y : ℤ) → pos 0 <ℤ y → power (pos 0) y ≡ Ok (pos 0)
unfolding power
power_of_zero (pos zero) h = absurd (omega (arith, ints))
power_of_zero (pos (suc n)) h = ap (λ m. in_range (pos m)) (pow-suc 0 n ∙ mul-zero (0 ^ n))
power_of_zero (negsuc n) h = absurd (omega (arith, ints))

pub power_of_zero_to_zero : power (pos 0) (pos 0) ≡ Ok (pos 1)
unfolding power
power_of_zero_to_zero = refl

pub power_by : (x y : ℤ) → pos 0 ≤ℤ y → power x y ≡ in_range (int_pow x (unsigned_abs y))
unfolding power
power_by x (pos n) h = refl
power_by x (negsuc n) h = absurd (omega (arith, ints))

-- the parity of what the code tests
pub even_rest : (y : ℤ) → of_z w64 (int_rem y (pos 2)) ≡ 0 → unsigned_abs y % 2 ≡ 0
even_rest (pos n) h = h
even_rest (negsuc n) h = plain (suc n % 2) (omega arith) h
  where
    plain : (r : ℕ) → r < 2 → of_z w64 (neg_ℤ (pos r)) ≡ 0 → r ≡ 0
    plain r l h = omega (arith, ints)

pub odd_rest : (y : ℤ) → (of_z w64 (int_rem y (pos 2)) ≡ 0 → ⊥) → unsigned_abs y % 2 ≡ 1
odd_rest (pos n) h = plain (n % 2) (omega arith) h
  where
    plain : (r : ℕ) → r < 2 → (r ≡ 0 → ⊥) → r ≡ 1
    plain zero l h = absurd (h refl)
    plain (suc r) l h = omega arith
odd_rest (negsuc n) h = plain (suc n % 2) (omega arith) h
  where
    plain : (r : ℕ) → r < 2 → (of_z w64 (neg_ℤ (pos r)) ≡ 0 → ⊥) → r ≡ 1
    plain zero l h = absurd (h refl)
    plain (suc r) l h = omega arith

large : (a n : ℕ) → 2 ≤ a → 64 ≤ n → 2 ^ 64 ≤ a ^ n
large a n h k =
    let l : 2 ^ n ≤ a ^ n = pow-le-pow_left h n in
    let r : 2 ^ 64 ≤ 2 ^ n = pow-le-pow_right {n = 2} (lit≤ tt) k in
    omega arith

large_either_way : (b : Bool) (p : ℕ) → 2 ^ 64 ≤ p → FitsSigned w64 (cond b (pos p) (neg_ℤ (pos p))) → ⊥
large_either_way true p h f = omega (arith, ints)
large_either_way false p h f = omega (arith, ints)

pub power_large : (x y : ℤ) → x ≢ pos 0 → x ≢ pos 1 → x ≢ negsuc 0 → pos 64 ≤ℤ y → power x y ≡ Err Limit
unfolding power
power_large x (negsuc n) o p q h = absurd (omega (arith, ints))
power_large (pos zero) (pos n) o p q h = absurd (o refl)
power_large (pos (suc zero)) (pos n) o p q h = absurd (p refl)
power_large (pos (suc (suc a))) (pos n) o p q h =
    beyond_range (pos (suc (suc a) ^ n)) (large_either_way true (suc (suc a) ^ n) (large (suc (suc a)) n (omega arith) (omega (arith, ints))))
power_large (negsuc zero) (pos n) o p q h = absurd (q refl)
power_large (negsuc (suc a)) (pos n) o p q h =
    beyond_range (int_pow (negsuc (suc a)) n) (large_either_way (nat_eq (n % 2) 0) (suc (suc a) ^ n) (large (suc (suc a)) n (omega arith) (omega (arith, ints))))

-- the factorials that fit
abbrev pub factorials : List ℤ
factorials =
    pos 1 ∷ pos 1 ∷ pos 2 ∷ pos 6 ∷ pos 24 ∷ pos 120 ∷ pos 720 ∷ pos 5040 ∷ pos 40320 ∷ pos 362880 ∷ pos 3628800 ∷ pos 39916800 ∷ pos 479001600 ∷ pos 6227020800 ∷ pos 87178291200
    ∷ pos 1307674368000 ∷ pos 20922789888000 ∷ pos 355687428096000 ∷ pos 6402373705728000 ∷ pos 121645100408832000 ∷ pos 2432902008176640000 ∷ []

all_factorials : map (λ n. factorial_of (pos n)) (range_with_len 0 21) ≡ map Ok factorials
unfolding factorial
all_factorials = refl

pub factorial_small : (n : ℕ) → n < 21 → factorial_of (pos n) ≡ Ok (get_or factorials n (pos 0))
factorial_small n h =
    sym (get_or-map-range_with_len (λ k. factorial_of (pos k)) 0 21 n n (Err Domain) h (omega arith))
    ∙ ap (λ l. get_or l n (Err Domain)) all_factorials
    ∙ get_or-map-within n h
  where
    get_or-map-within : (n : ℕ) → n < 21 → get_or (map Ok factorials) n (Err Domain) ≡ Ok (get_or factorials n (pos 0))
    get_or-map-within n h = get_or-map Ok factorials n (pos 0) (Err Domain) h

-- each of them fits
pub factorials-fit : (n : ℕ) → n < 21 → get_or factorials n (pos 0) ≡ to_z w64 (of_z w64 (get_or factorials n (pos 0)))
factorials-fit n h = ap (λ l. get_or l n (pos 0)) all ∙ get_or-map (λ z. to_z w64 (of_z w64 z)) factorials n (pos 0) (pos 0) h
  where
    all : factorials ≡ map (λ z. to_z w64 (of_z w64 z)) factorials
    all = refl

factorial-large : (n : ℕ) → 21 ≤ n → 2 ^ 63 ≤ factorial n
unfolding factorial
factorial-large zero h = absurd (omega arith)
factorial-large (suc n) h = each (cases_lt n 21) (factorial-large n)
  where
    each : (n < 21) ⊎ (21 ≤ n) → (21 ≤ n → 2 ^ 63 ≤ factorial n) → 2 ^ 63 ≤ suc n * factorial n
    each (inl l) more = let e : n ≡ 20 = omega arith in rw e (lit≤ tt)
    each (inr l) more = let g : 2 ^ 63 ≤ factorial n = more l in omega (arith, suc-mul n (factorial n))

pub factorial_beyond : (y : ℤ) → pos 20 <ℤ y → factorial_of y ≡ Err Limit
factorial_beyond (pos n) h = beyond_range (pos (factorial n)) (λ f. absurd (omega (arith, ints, factorial-large n (omega (arith, ints)))))
factorial_beyond (negsuc n) h = absurd (omega (arith, ints))
