-- The scalar functions of whole numbers without bounds; the range is asked of the value.
use Rattle.std.specs.Prelude.{◌≡◌, ◌⊎◌, ◌≤ℤ◌, ◌<ℤ◌, ℕ, zero, suc, ℤ, pos, negsuc, ◌+ℤ◌, ◌-ℤ◌, ◌*ℤ◌, neg_ℤ, ◌*◌, ◌^◌}
use Rattle.std.specs.Prelude.{Bool, true, false, not, ◌&&◌, ◌||◌, nat_lt, nat_eq, cond, unsigned_abs, int_lt, int_le, int_div, int_rem, Result, Ok, Err}
use Rattle.std.specs.Int.{int_signum, int_min, int_max, int_pow, int_div_euclid}
use Rattle.apl_faults.specs.declared.fault.Fault.{Fault}
use Rattle.apl_faults.specs.declared.fault.Fault.TheVariants.{Domain, Limit}
use Rattle.apl_arrays.specs.Results.{and_then, ok_map}
use Rattle.apl_scalar.specs.declared.function.Monadic.{Monadic}
use Rattle.apl_scalar.specs.declared.function.Monadic.TheVariants as one
use Rattle.apl_scalar.specs.declared.function.Dyadic.{Dyadic}
use Rattle.apl_scalar.specs.declared.function.Dyadic.TheVariants as two

-- a number fits 64 bits
abbrev pub is_in_range : ℤ → Bool
is_in_range (pos n) = nat_lt n (2 ^ 63)
is_in_range (negsuc n) = nat_lt n (2 ^ 63)

-- the number, or a limit fault where it does not fit
abbrev pub in_range : ℤ → Result ℤ Fault
in_range z = cond (is_in_range z) (Ok z) (Err Limit)

-- two numbers are equal
abbrev pub int_eq : ℤ → ℤ → Bool
int_eq (pos m) (pos n) = nat_eq m n
int_eq (pos m) (negsuc n) = false
int_eq (negsuc m) (pos n) = false
int_eq (negsuc m) (negsuc n) = nat_eq m n

-- a number is 1 or -1
abbrev pub is_unit : ℤ → Bool
is_unit z = nat_eq (unsigned_abs z) 1

-- 1 stands for true, and 0 for false
abbrev pub number_of : Bool → ℤ
number_of b = cond b (pos 1) (pos 0)

-- what 0 and 1 stand for
abbrev pub truth_of : ℤ → Result Bool Fault
truth_of (pos zero) = Ok false
truth_of (pos (suc zero)) = Ok true
truth_of z = Err Domain

-- a function of truth values, on 0 and 1
abbrev pub logical : (Bool → Bool → Bool) → ℤ → ℤ → Result ℤ Fault
logical f x y = and_then (truth_of x) (λ p. ok_map (λ q. number_of (f p q)) (truth_of y))

-- the product of the numbers from 1 to n
unfoldable pub factorial : ℕ → ℕ
factorial zero = 1
factorial (suc n) = suc n * factorial n

-- the factorial of a number that is not negative
abbrev pub factorial_of : ℤ → Result ℤ Fault
factorial_of (pos n) = in_range (pos (factorial n))
factorial_of (negsuc n) = Err Domain

-- x divided by y without a rest, where 0 divided by 0 is 1
abbrev pub quotient : ℤ → ℤ → Result ℤ Fault
quotient x y =
    cond (int_eq y (pos 0)) (cond (int_eq x (pos 0)) (Ok (pos 1)) (Err Domain))
    (cond (int_eq (int_rem x y) (pos 0)) (in_range (int_div x y)) (Err Domain))

-- x divided by y, rounded down: by a positive divisor that leaves no negative rest, and a negative one changes its sign with x
abbrev pub floor_div : ℤ → ℤ → ℤ
floor_div x (pos n) = int_div_euclid x (pos n)
floor_div x (negsuc n) = int_div_euclid (neg_ℤ x) (pos (suc n))

-- what is left of y by x: all by 0, else y less x times their quotient rounded down
abbrev pub residue : ℤ → ℤ → ℤ
residue (pos zero) y = y
residue x y = y -ℤ x *ℤ floor_div y x

-- r differs from y by a multiple of x, and lies from 0 up to x or down to x, x itself excluded
abbrev pub IsLeft : ℤ → ℤ → ℤ → Type 0
IsLeft x y r = ((q : ℤ) × (y ≡ x *ℤ q +ℤ r)) × (((pos 0 ≤ℤ r) × (r <ℤ x)) ⊎ ((x <ℤ r) × (r ≤ℤ pos 0)))

-- x to the power y; a negative power is that of 1 and -1 alone, which are their own reciprocals
unfoldable pub power : ℤ → ℤ → Result ℤ Fault
power x (pos n) = in_range (int_pow x n)
power x (negsuc n) = cond (is_unit x) (Ok (int_pow x (suc n))) (Err Domain)

-- each function of one number
abbrev pub monadic_of : Monadic → ℤ → Result ℤ Fault
monadic_of one.Plus y = Ok y
monadic_of one.Minus y = in_range (pos 0 -ℤ y)
monadic_of one.Times y = Ok (int_signum y)
monadic_of one.Divide y = cond (is_unit y) (Ok y) (Err Domain)
monadic_of one.Ceiling y = Ok y
monadic_of one.Floor y = Ok y
monadic_of one.Magnitude y = in_range (pos (unsigned_abs y))
monadic_of one.Not y = ok_map (λ p. number_of (not p)) (truth_of y)
monadic_of one.Factorial y = factorial_of y

-- each function of two numbers
abbrev pub dyadic_of : Dyadic → ℤ → ℤ → Result ℤ Fault
dyadic_of two.Plus x y = in_range (x +ℤ y)
dyadic_of two.Minus x y = in_range (x -ℤ y)
dyadic_of two.Times x y = in_range (x *ℤ y)
dyadic_of two.Divide x y = quotient x y
dyadic_of two.Power x y = power x y
dyadic_of two.Maximum x y = Ok (int_max x y)
dyadic_of two.Minimum x y = Ok (int_min x y)
dyadic_of two.Residue x y = Ok (residue x y)
dyadic_of two.Less x y = Ok (number_of (int_lt x y))
dyadic_of two.NotGreater x y = Ok (number_of (int_le x y))
dyadic_of two.Equal x y = Ok (number_of (int_eq x y))
dyadic_of two.NotLess x y = Ok (number_of (int_le y x))
dyadic_of two.Greater x y = Ok (number_of (int_lt y x))
dyadic_of two.NotEqual x y = Ok (number_of (not (int_eq x y)))
dyadic_of two.And x y = logical (λ p q. p && q) x y
dyadic_of two.Or x y = logical (λ p q. p || q) x y
dyadic_of two.Nand x y = logical (λ p q. not (p && q)) x y
dyadic_of two.Nor x y = logical (λ p q. not (p || q)) x y
