-- Products of small numbers.
use Rattle.std.proofs.Common.{zero, suc, ◌≡◌, ◌↔◌, ℕ, ℤ, pos, ◌*ℤ◌, ◌≤ℤ◌, ◌<◌, ◌≤◌, ◌^◌, List, [], ◌∷◌, length, get_or, Ok, FitsSigned, ap, sym, ◌∙◌, arith, w64}
use Rattle.std.specs.Prelude.{bit_or, unsigned_abs}
use Rattle.std.specs.Int.{w32}
use Rattle.std.proofs.lemmas.Int.{ints, fits_signed_mul}
use Rattle.std.proofs.lemmas.Nat.{le_or_l, le_or_r, or_lt}
use Rattle.apl_scalar.specs.Functions.{in_range}
use Rattle.apl_scalar.proofs.Signs.{in_range-fits}

-- numbers of 32 bits have a product of 64
pub small_product : (x y p : ℤ) → (FitsSigned w64 (x *ℤ y) → p ≡ x *ℤ y) → FitsSigned w32 x × FitsSigned w32 y → in_range (x *ℤ y) ≡ Ok p
small_product x y p made h =
    let low_x : unsigned_abs x ≤ 2 ^ 31 = within x h.0 in
    let low_y : unsigned_abs y ≤ 2 ^ 31 = within y h.1 in
    let fits : FitsSigned w64 (x *ℤ y) = fits_signed_mul w64 x y (2 ^ 31) (2 ^ 31) low_x low_y (omega arith) in
    in_range-fits (x *ℤ y) fits ∙ ap (λ (z : ℤ). Ok z) (sym (made fits))
  where
    within : (z : ℤ) → FitsSigned w32 z → unsigned_abs z ≤ 2 ^ 31
    within z h = omega (arith, ints)

-- a flag of both numbers by a bound of what tells of each that it has 32 bits
pub both_small : (x y f : ℤ) (s t bound : ℕ) → (s < 2 ^ 32 ↔ FitsSigned w32 x) → (t < 2 ^ 32 ↔ FitsSigned w32 y) → bound ≡ bit_or s t → (pos 0 ≤ℤ f ↔ bound < 2 ^ 32) →
    pos 0 ≤ℤ f ↔ FitsSigned w32 x × FitsSigned w32 y
both_small x y f s t bound hx hy e hf = (
  λ h. let l : bound < 2 ^ 32 = hf.0 h in (hx.0 (omega (arith, le_or_l s t)), hy.0 (omega (arith, le_or_r s t))),
  λ h. hf.1 (omega (arith, or_lt 32 s t (hx.1 h.0) (hy.1 h.1))),
)

-- the numbers of a list are within a bound, and so is what stands for a number beyond its end
pub all_small : (zs : List ℤ) (bound : ℕ) → ((k : ℕ) → k < length zs → unsigned_abs (get_or zs k (pos 0)) ≤ bound) → (k : ℕ) → unsigned_abs (get_or zs k (pos 0)) ≤ bound
all_small [] bound h k = omega arith
all_small (z ∷ zs) bound h zero = h 0 (omega arith)
all_small (z ∷ zs) bound h (suc k) = all_small zs bound (λ j l. h (suc j) (omega arith)) k
