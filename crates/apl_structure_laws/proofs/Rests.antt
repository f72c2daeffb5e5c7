-- What division by natural numbers leaves.
use Rattle.std.proofs.Common.{suc, zero, ◌≡◌, ℕ, ℤ, pos, negsuc, ◌+ℤ◌, ◌*ℤ◌, ◌+◌, ◌-◌, ◌*◌, ◌/◌, ◌%◌, ◌<◌, refl, ap, sym, ◌∙◌, arith}
use Rattle.std.proofs.Math.Nat.{mod-lt, mod-one}
use lib.Arith.{mod-mul}
use Rattle.apl_scalar.specs.Functions.{residue}
use Rattle.apl_scalar.proofs.Rests.{positive_rest}
use Rattle.apl_search.specs.Encoded.{left_of}

abbrev pub rest : ℕ → ℤ → ℕ
rest n (pos a) = a % n
rest n (negsuc a) = n - 1 - a % n

abbrev pub quot : ℕ → ℤ → ℤ
quot n (pos a) = pos (a / n)
quot n (negsuc a) = negsuc (a / n)

pub residue-rest : (n : ℕ) (y : ℤ) → 0 < n → residue (pos n) y ≡ pos (rest n y)
residue-rest zero y h = absurd (omega arith)
residue-rest (suc n) (pos a) h = positive_rest (pos a) n
residue-rest (suc n) (negsuc a) h = positive_rest (negsuc a) n

pub left-quot : (n : ℕ) (y : ℤ) → 0 < n → left_of (pos n) y ≡ quot n y
left-quot zero y h = absurd (omega arith)
left-quot (suc n) (pos a) h = refl
left-quot (suc n) (negsuc a) h = refl

pub rest-below : (n : ℕ) (y : ℤ) → 0 < n → rest n y < n
rest-below n (pos a) h = mod-lt a h
rest-below n (negsuc a) h = omega arith

pub rest-one : (y : ℤ) → rest 1 y ≡ 0
rest-one (pos a) = mod-one a
rest-one (negsuc a) = omega arith

-- what two divisions leave is what division by the product leaves
pub rest-rest : (p n : ℕ) (y : ℤ) → 0 < p → 0 < n → rest p (quot n y) * n + rest n y ≡ rest (p * n) y
rest-rest p n (pos a) g h = sym (mod-mul a g h)
rest-rest p n (negsuc a) g h = turned (a / n % p) (p - 1 - a / n % p) n (a % n) p (a % (p * n)) (whole (a / n % p) p (mod-lt (a / n) g)) (mod-lt a h) (mod-mul a g h)
  where
    whole : (q p : ℕ) → q < p → (p - 1 - q) + q + 1 ≡ p
    whole q p h = omega arith

    product : (u q p n : ℕ) → u + q + 1 ≡ p → p * n ≡ u * n + q * n + n
    product u q p n e = ap (λ x. x * n) (sym e) ∙ multiplied u q n
      where
        multiplied : (u q n : ℕ) → (u + q + 1) * n ≡ u * n + q * n + n
        multiplied u q n = omega arith

    turned : (q u n r p m : ℕ) → u + q + 1 ≡ p → r < n → m ≡ q * n + r → u * n + (n - 1 - r) ≡ p * n - 1 - m
    turned q u n r p m e l f = sums (u * n) (q * n) (p * n) n r m (product u q p n e) l f
      where
        sums : (x y z n r m : ℕ) → z ≡ x + y + n → r < n → m ≡ y + r → x + (n - 1 - r) ≡ z - 1 - m
        sums x y z n r m e l f = omega arith

pub value-step : (v n r : ℕ) → pos v *ℤ pos n +ℤ pos r ≡ pos (v * n + r)
value-step v n r = refl
