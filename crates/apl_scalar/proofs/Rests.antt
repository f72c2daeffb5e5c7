-- Quotients rounded down, and what division leaves.
use Rattle.std.proofs.Common.{◌≡◌, ◌≢◌, ℕ, zero, suc, ℤ, pos, negsuc, neg_ℤ, ◌+ℤ◌, ◌-ℤ◌, ◌*ℤ◌, ◌≤ℤ◌, ◌<ℤ◌, ◌+◌, ◌-◌, ◌*◌, ◌/◌, ◌%◌, ◌<◌, ◌≤◌, ◌⊎◌, inl, inr, FitsSigned, to_z, of_z, refl, ap, ◌∙◌, arith, sym}
use Rattle.std.specs.Int.{w64, int_div_euclid, int_rem_euclid}
use Rattle.std.specs.Prelude.{int_rem}
use Rattle.std.proofs.Math.Nat.{div-add-mod, mul-suc, suc-mod, mod-eq_of_lt, mod_self, mod-lt, zero-mod}
use Rattle.std.proofs.lemmas.Bool.{cases_lt}
use Rattle.std.proofs.lemmas.Int.{ints}
use Rattle.apl_scalar.specs.Functions.{residue, IsLeft}

split : (m n : ℕ) → (suc n * (m / suc n) + m % suc n ≡ m) × (m % suc n < suc n)
split m n = (div-add-mod m (suc n), mod-lt m (omega arith))

-- by a positive divisor
pub positive_rest : (y : ℤ) (n : ℕ) → y -ℤ pos (suc n) *ℤ int_div_euclid y (pos (suc n)) ≡ int_rem_euclid y (pos (suc n))
positive_rest (pos m) n = plain m (suc n * (m / suc n)) (m % suc n) (split m n).0
  where
    plain : (m x r : ℕ) → x + r ≡ m → pos m -ℤ pos x ≡ pos r
    plain m x r e = omega (arith, ints)
positive_rest (negsuc m) n = plain m (suc n * suc (m / suc n)) (m % suc n) (suc n) (suc n * (m / suc n)) (split m n).0 (split m n).1 (mul-suc (suc n) (m / suc n))
  where
    plain : (m x r d y : ℕ) → y + r ≡ m → r < d → x ≡ y + d → negsuc m -ℤ neg_ℤ (pos x) ≡ pos (d - 1 - r)
    plain m x r d y e l f = omega (arith, ints)

-- by a negative divisor
negative_rest : (y : ℤ) (n : ℕ) → y -ℤ negsuc n *ℤ int_div_euclid (neg_ℤ y) (pos (suc n)) ≡ neg_ℤ (int_rem_euclid (neg_ℤ y) (pos (suc n)))
negative_rest (pos zero) n = plain (suc n * (zero / suc n)) (zero % suc n) (split zero n).0
  where
    plain : (x r : ℕ) → x + r ≡ 0 → pos 0 -ℤ neg_ℤ (pos x) ≡ neg_ℤ (pos r)
    plain x r e = omega (arith, ints)
negative_rest (pos (suc m)) n = plain m (suc n * suc (m / suc n)) (m % suc n) (suc n) (suc n * (m / suc n)) (split m n).0 (split m n).1 (mul-suc (suc n) (m / suc n))
  where
    plain : (m x r d y : ℕ) → y + r ≡ m → r < d → x ≡ y + d → pos (suc m) -ℤ pos x ≡ neg_ℤ (pos (d - 1 - r))
    plain m x r d y e l f = omega (arith, ints)
negative_rest (negsuc m) n = plain m (suc n * (suc m / suc n)) (suc m % suc n) (split (suc m) n).0
  where
    plain : (m x r : ℕ) → x + r ≡ suc m → negsuc m -ℤ neg_ℤ (pos x) ≡ neg_ℤ (pos r)
    plain m x r e = omega (arith, ints)

-- the rest of the next number
next_rest : (m n : ℕ) → ((suc m % suc n ≡ 0) × (m % suc n ≡ n)) ⊎ (suc m % suc n ≡ m % suc n + 1)
next_rest m n = each (cases_lt (suc (m % suc n)) (suc n))
  where
    each : ((suc (m % suc n)) < suc n) ⊎ (suc n ≤ suc (m % suc n)) → ((suc m % suc n ≡ 0) × (m % suc n ≡ n)) ⊎ (suc m % suc n ≡ m % suc n + 1)
    each (inl h) = inr (omega (arith, suc-mod m (suc n), mod-eq_of_lt h))
    each (inr h) =
        let last : m % suc n ≡ n = omega (arith, (split m n).1) in
        inl (suc-mod m (suc n) ∙ ap (λ k. suc k % suc n) last ∙ mod_self (suc n), last)

-- what is left, by the rest with the sign of y: that rest itself, or the sum of it and the divisor
pub up_same : (x y : ℤ) → pos 0 <ℤ x → pos 0 ≤ℤ int_rem y x → residue x y ≡ int_rem y x
up_same (pos zero) y h l = absurd (omega (arith, ints))
up_same (pos (suc n)) (pos m) h l = positive_rest (pos m) n
up_same (pos (suc n)) (negsuc m) h l = positive_rest (negsuc m) n ∙ each (next_rest m n) l
  where
    each : ((suc m % suc n ≡ 0) × (m % suc n ≡ n)) ⊎ (suc m % suc n ≡ m % suc n + 1) → pos 0 ≤ℤ neg_ℤ (pos (suc m % suc n)) → pos (suc n - 1 - m % suc n) ≡ neg_ℤ (pos (suc m % suc n))
    each (inl e) l = let z = e.0 in let k = e.1 in omega (arith, ints)
    each (inr e) l = absurd (omega (arith, ints))
up_same (negsuc n) y h l = absurd (omega (arith, ints))

pub up_more : (x y : ℤ) → pos 0 <ℤ x → int_rem y x <ℤ pos 0 → residue x y ≡ int_rem y x +ℤ x
up_more (pos zero) y h l = absurd (omega (arith, ints))
up_more (pos (suc n)) (pos m) h l = absurd (omega (arith, ints))
up_more (pos (suc n)) (negsuc m) h l = positive_rest (negsuc m) n ∙ each (next_rest m n) l
  where
    each : ((suc m % suc n ≡ 0) × (m % suc n ≡ n)) ⊎ (suc m % suc n ≡ m % suc n + 1) → neg_ℤ (pos (suc m % suc n)) <ℤ pos 0 → pos (suc n - 1 - m % suc n) ≡ neg_ℤ (pos (suc m % suc n)) +ℤ pos (suc n)
    each (inl e) l = let z = e.0 in absurd (omega (arith, ints))
    each (inr e) l = let k = (split m n).1 in omega (arith, ints)
up_more (negsuc n) y h l = absurd (omega (arith, ints))

pub down_same : (x y : ℤ) → x <ℤ pos 0 → int_rem y x ≤ℤ pos 0 → residue x y ≡ int_rem y x
down_same (pos n) y h l = absurd (omega (arith, ints))
down_same (negsuc n) (pos zero) h l = negative_rest (pos zero) n ∙ ap (λ r. neg_ℤ (pos r)) (zero-mod (suc n)) ∙ sym (ap pos (zero-mod (suc n)))
down_same (negsuc n) (pos (suc m)) h l = negative_rest (pos (suc m)) n ∙ each (next_rest m n) l
  where
    each : ((suc m % suc n ≡ 0) × (m % suc n ≡ n)) ⊎ (suc m % suc n ≡ m % suc n + 1) → pos (suc m % suc n) ≤ℤ pos 0 → neg_ℤ (pos (suc n - 1 - m % suc n)) ≡ pos (suc m % suc n)
    each (inl e) l = let z = e.0 in let k = e.1 in omega (arith, ints)
    each (inr e) l = absurd (omega (arith, ints))
down_same (negsuc n) (negsuc m) h l = negative_rest (negsuc m) n

pub down_more : (x y : ℤ) → x <ℤ pos 0 → pos 0 <ℤ int_rem y x → residue x y ≡ int_rem y x +ℤ x
down_more (pos n) y h l = absurd (omega (arith, ints))
down_more (negsuc n) (pos zero) h l = absurd (omega (arith, ints, zero-mod (suc n)))
down_more (negsuc n) (pos (suc m)) h l = negative_rest (pos (suc m)) n ∙ each (next_rest m n) l
  where
    each : ((suc m % suc n ≡ 0) × (m % suc n ≡ n)) ⊎ (suc m % suc n ≡ m % suc n + 1) → pos 0 <ℤ pos (suc m % suc n) → neg_ℤ (pos (suc n - 1 - m % suc n)) ≡ pos (suc m % suc n) +ℤ negsuc n
    each (inl e) l = let z = e.0 in absurd (omega (arith, ints))
    each (inr e) l = let k = (split m n).1 in omega (arith, ints)
down_more (negsuc n) (negsuc m) h l = absurd (omega (arith, ints))

-- numbers of two signs add up in 64 bits
pub sum_up : (r x : ℤ) → FitsSigned w64 r → FitsSigned w64 x → r <ℤ pos 0 → pos 0 <ℤ x → to_z w64 (of_z w64 (to_z w64 (of_z w64 r) +ℤ to_z w64 (of_z w64 x))) ≡ r +ℤ x
sum_up r x f g h l = omega (arith, ints)

pub sum_down : (r x : ℤ) → FitsSigned w64 r → FitsSigned w64 x → pos 0 <ℤ r → x <ℤ pos 0 → to_z w64 (of_z w64 (to_z w64 (of_z w64 r) +ℤ to_z w64 (of_z w64 x))) ≡ r +ℤ x
sum_down r x f g h l = omega (arith, ints)

-- the law of residues
again : (y z : ℤ) → y ≡ z +ℤ (y -ℤ z)
again y z = omega (arith, ints)

pub residue_left : (x y : ℤ) → x ≢ pos 0 → IsLeft x y (residue x y)
residue_left (pos zero) y h = absurd (h refl)
residue_left (pos (suc n)) y h =
    ((int_div_euclid y (pos (suc n)), again y (pos (suc n) *ℤ int_div_euclid y (pos (suc n)))), inl (each y _ (positive_rest y n)))
  where
    each : (y r : ℤ) → r ≡ int_rem_euclid y (pos (suc n)) → (pos 0 ≤ℤ r) × (r <ℤ pos (suc n))
    each (pos m) r e = let l = (split m n).1 in (omega (arith, ints), omega (arith, ints))
    each (negsuc m) r e = let l = (split m n).1 in (omega (arith, ints), omega (arith, ints))
residue_left (negsuc n) y h =
    ((int_div_euclid (neg_ℤ y) (pos (suc n)), again y (negsuc n *ℤ int_div_euclid (neg_ℤ y) (pos (suc n)))), inr (each (neg_ℤ y) _ (negative_rest y n)))
  where
    each : (z r : ℤ) → r ≡ neg_ℤ (int_rem_euclid z (pos (suc n))) → (negsuc n <ℤ r) × (r ≤ℤ pos 0)
    each (pos m) r e = let l = (split m n).1 in (omega (arith, ints), omega (arith, ints))
    each (negsuc m) r e = let l = (split m n).1 in (omega (arith, ints), omega (arith, ints))
