-- Products of each number with each of others that all fit.
use Rattle.std.proofs.Common.{◌≡◌, ℕ, ℤ, pos, ◌*ℤ◌, ◌+◌, ◌<◌, ◌≤◌, ◌≤ℤ◌, max, List, ◌++◌, length, replicate, get_or, FitsSigned, Ok, ap, sym, ◌∙◌, arith, w64}
use Rattle.std.specs.Prelude.{unsigned_abs}
use Rattle.std.proofs.lemmas.Int.{ints}
use Rattle.std.proofs.lemmas.List.{length-append}
use Rattle.apl_scalar.specs.declared.function.Dyadic.TheVariants as two
use Rattle.apl_scalar.specs.Functions.{dyadic_of}
use Rattle.apl_scalar.proofs.Signs.{in_range-fits}
use Rattle.apl_scalar.proofs.Whole.{all_values}
use Rattle.apl_operators.specs.Places.{row_of}

-- a number between two has no larger magnitude than both
pub within_larger : (z a b : ℤ) (m n p : ℕ) → m ≡ unsigned_abs a → n ≡ unsigned_abs b → p ≡ max m n → (a ≤ℤ z) × (z ≤ℤ b) → unsigned_abs z ≤ p
within_larger z a b m n p e f g h = let low = h.0 in let high = h.1 in omega (arith, ints)

-- where room is made behind a list, it begins within
pub room_within : (old grown shown : List ℤ) (x : ℤ) (n before : ℕ) → grown ≡ old ++ replicate n x → before ≡ length old → shown ≡ grown → before ≤ length shown
room_within old grown shown x n before g b e = let long : length shown ≡ length old + length (replicate n x) = ap length e ∙ ap length g ∙ length-append old (replicate n x) in omega arith

-- the products of a number with others that all fit
pub row_products : (x : ℤ) (ys zs : List ℤ) → length zs ≡ length ys → ((k : ℕ) → k < length ys → FitsSigned w64 (x *ℤ get_or ys k (pos 0))) →
    ((k : ℕ) → k < length ys → get_or zs k (pos 0) ≡ x *ℤ get_or ys k (pos 0)) → row_of (dyadic_of two.Times) x ys ≡ Ok zs
row_products x ys zs size fits each =
    all_values (λ k. dyadic_of two.Times x (get_or ys k (pos 0))) zs (length ys) size (λ k h. in_range-fits (x *ℤ get_or ys k (pos 0)) (fits k h) ∙ ap (λ (z : ℤ). Ok z) (sym (each k h)))
