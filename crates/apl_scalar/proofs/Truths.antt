-- Truth values by their bits.
use Rattle.std.proofs.Common.{◌≡◌, ◌⊎◌, inl, inr, ℕ, zero, suc, ℤ, pos, negsuc, ◌+◌, ◌-ℤ◌, ◌≤ℤ◌, ◌/◌, ◌^◌, ◌<◌, Bool, true, false, Ok, Err, FitsSigned, to_z, of_z, refl, ap, sym, ◌∙◌, arith}
use Rattle.std.specs.Prelude.{bit_or, IsErr}
use Rattle.std.specs.Int.{w64}
use Rattle.std.proofs.lemmas.Nat.{le_or_l, le_or_r}
use Rattle.std.proofs.lemmas.Int.{ints}
use Rattle.apl_faults.specs.declared.fault.Fault.TheVariants.{Domain}
use Rattle.apl_scalar.specs.Functions.{number_of, logical}
use Rattle.apl_scalar.specs.Operands.{IsTruth}

pub small_truth : (x : ℤ) → FitsSigned w64 x → of_z w64 x < 2 → IsTruth x
small_truth (pos zero) f h = (false, refl)
small_truth (pos (suc zero)) f h = (true, refl)
small_truth (pos (suc (suc n))) f h = absurd (omega arith)
small_truth (negsuc n) f h = absurd (omega (arith, ints))

-- no bit above the last is set in two numbers
pub truths_by_bits : (x y : ℤ) → FitsSigned w64 x → FitsSigned w64 y → bit_or (of_z w64 x) (of_z w64 y) / 2 ≡ 0 → IsTruth x × IsTruth y
truths_by_bits x y f g h =
    (small_truth x f (omega (arith, le_or_l (of_z w64 x) (of_z w64 y))), small_truth y g (omega (arith, le_or_r (of_z w64 x) (of_z w64 y))))

pub zero_flag : (n : ℕ) → n < 2 ^ 63 → pos 0 ≤ℤ to_z w64 (of_z w64 (pos 0 -ℤ to_z w64 n)) → n ≡ 0
zero_flag n h k = grind (arith, ints)

-- two truth values have no higher bit
one_bit : (p q : Bool) → bit_or (of_z w64 (number_of p)) (of_z w64 (number_of q)) / 2 ≡ 0
one_bit false false = refl
one_bit false true = refl
one_bit true false = refl
one_bit true true = refl

pub no_truths : (f : Bool → Bool → Bool) (x y : ℤ) → (IsTruth x → IsTruth y → ⊥) → logical f x y ≡ Err Domain
no_truths f (pos zero) (pos zero) h = absurd (h (false, refl) (false, refl))
no_truths f (pos zero) (pos (suc zero)) h = absurd (h (false, refl) (true, refl))
no_truths f (pos zero) (pos (suc (suc n))) h = refl
no_truths f (pos zero) (negsuc n) h = refl
no_truths f (pos (suc zero)) (pos zero) h = absurd (h (true, refl) (false, refl))
no_truths f (pos (suc zero)) (pos (suc zero)) h = absurd (h (true, refl) (true, refl))
no_truths f (pos (suc zero)) (pos (suc (suc n))) h = refl
no_truths f (pos (suc zero)) (negsuc n) h = refl
no_truths f (pos (suc (suc m))) y h = refl
no_truths f (negsuc m) y h = refl

pub fault_by_bits : (f : Bool → Bool → Bool) (x y : ℤ) → (bit_or (of_z w64 x) (of_z w64 y) / 2 ≡ 0 → ⊥) → logical f x y ≡ Err Domain
fault_by_bits f x y h = no_truths f x y (λ s t. h (along s t))
  where
    along : IsTruth x → IsTruth y → bit_or (of_z w64 x) (of_z w64 y) / 2 ≡ 0
    along s t = ap (λ z. bit_or (of_z w64 z) (of_z w64 y) / 2) s.1 ∙ ap (λ z. bit_or (of_z w64 (number_of s.0)) (of_z w64 z) / 2) t.1 ∙ one_bit s.0 t.0

-- the value on truth values
pub logical_value : (f : Bool → Bool → Bool) (x y r : ℤ) → IsTruth x → IsTruth y → ((p q : Bool) → x ≡ number_of p → y ≡ number_of q → r ≡ number_of (f p q)) → logical f x y ≡ Ok r
logical_value f x y r s t h =
    ap (λ z. logical f z y) s.1 ∙ ap (λ z. logical f (number_of s.0) z) t.1 ∙ plain s.0 t.0 ∙ ap (λ z. Ok z) (sym (h s.0 t.0 s.1 t.1))
  where
    plain : (p q : Bool) → logical f (number_of p) (number_of q) ≡ Ok (number_of (f p q))
    plain false false = refl
    plain false true = refl
    plain true false = refl
    plain true true = refl

-- a number is a truth value or not
is_truth : (x : ℤ) → IsTruth x ⊎ (IsTruth x → ⊥)
is_truth (pos zero) = inl (false, refl)
is_truth (pos (suc zero)) = inl (true, refl)
is_truth (pos (suc (suc n))) = inr (λ t. other t.0 t.1)
  where
    other : (p : Bool) → pos (suc (suc n)) ≡ number_of p → ⊥
    other false e = absurd (cc)
    other true e = absurd (cc)
is_truth (negsuc n) = inr (λ t. other t.0 t.1)
  where
    other : (p : Bool) → negsuc n ≡ number_of p → ⊥
    other false e = absurd (cc)
    other true e = absurd (cc)

-- where the numbers at the places so far and those at the next one are not all truth values, there is no value at one of the places
pub no_truths_at : (f : Bool → Bool → Bool) (x y : ℕ → ℤ) (i : ℕ) (all here next : ℤ) → (IsTruth next → ⊥) →
    (IsTruth all → IsTruth here → IsTruth next) → (IsTruth (x i) → IsTruth (y i) → IsTruth here) →
    ((IsTruth all → ⊥) → (k : ℕ) × (k < i) × IsErr (logical f (x k) (y k))) → (k : ℕ) × (k < i + 1) × IsErr (logical f (x k) (y k))
no_truths_at f x y i all here next h both gathered before = cases (is_truth all)
  where
    cases : IsTruth all ⊎ (IsTruth all → ⊥) → (k : ℕ) × (k < i + 1) × IsErr (logical f (x k) (y k))
    cases (inl t) = (i, omega arith, rw (no_truths f (x i) (y i) (λ p q. h (both t (gathered p q)))) refl)
    cases (inr n) = let w = before n in (w.0, omega (arith, w.1), w.2)
