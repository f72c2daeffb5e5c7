-- Exact quotients by their multiples.
use Rattle.std.proofs.Common.{◌≡◌, ℕ, zero, suc, ℤ, pos, negsuc, neg_ℤ, ◌≤ℤ◌, ◌<ℤ◌, ◌*◌, ◌/◌, ◌%◌, ◌<◌, Ok, Err, cond, FitsSigned, ap, sym, ◌∙◌, arith}
use Rattle.std.specs.Prelude.{unsigned_abs, int_rem, int_div}
use Rattle.std.specs.Int.{w64}
use Rattle.std.proofs.Math.Nat.{mul-mod_left, mul-div_cancel}
use Rattle.std.proofs.lemmas.Bool.{ne_eqb}
use Rattle.std.proofs.lemmas.Int.{ints}
use Rattle.apl_faults.specs.declared.fault.Fault.TheVariants.{Domain}
use Rattle.apl_scalar.specs.Functions.{in_range, int_eq, quotient}
use Rattle.apl_scalar.proofs.Signs.{in_range-fits}

by_positive : (x : ℤ) (n : ℕ) → quotient x (pos (suc n)) ≡ cond (int_eq (int_rem x (pos (suc n))) (pos 0)) (in_range (int_div x (pos (suc n)))) (Err Domain)
by_positive x n =
    ap (λ b. cond b (cond (int_eq x (pos 0)) (Ok (pos 1)) (Err Domain)) (cond (int_eq (int_rem x (pos (suc n))) (pos 0)) (in_range (int_div x (pos (suc n)))) (Err Domain)))
    (ne_eqb (suc n) 0 (λ e. omega arith))

exact_up : (m q n : ℕ) → m ≡ q * suc n → FitsSigned w64 (pos q) → quotient (pos m) (pos (suc n)) ≡ Ok (pos q)
exact_up m q n h f =
    ap (λ k. quotient (pos k) (pos (suc n))) h
    ∙ by_positive (pos (q * suc n)) n
    ∙ ap (λ r. cond (int_eq (pos r) (pos 0)) (in_range (pos (q * suc n / suc n))) (Err Domain)) (mul-mod_left q (suc n))
    ∙ ap (λ k. in_range (pos k)) (mul-div_cancel q (omega arith))
    ∙ in_range-fits (pos q) f

exact_down : (m q n : ℕ) → suc m ≡ q * suc n → FitsSigned w64 (neg_ℤ (pos q)) → quotient (negsuc m) (pos (suc n)) ≡ Ok (neg_ℤ (pos q))
exact_down m q n h f =
    by_positive (negsuc m) n
    ∙ ap (λ k. cond (int_eq (neg_ℤ (pos (k % suc n))) (pos 0)) (in_range (neg_ℤ (pos (k / suc n)))) (Err Domain)) h
    ∙ ap (λ r. cond (int_eq (neg_ℤ (pos r)) (pos 0)) (in_range (neg_ℤ (pos (q * suc n / suc n)))) (Err Domain)) (mul-mod_left q (suc n))
    ∙ ap (λ k. in_range (neg_ℤ (pos k))) (mul-div_cancel q (omega arith))
    ∙ in_range-fits (neg_ℤ (pos q)) f

-- a magnitude that is a multiple of the divisor gives the quotient with its sign
pub exact_value : (x : ℤ) (d q : ℕ) (v : ℤ) → 0 < d → FitsSigned w64 v → unsigned_abs x ≡ q * d → (pos 0 ≤ℤ x → v ≡ pos q) → (x <ℤ pos 0 → v ≡ neg_ℤ (pos q)) →
    quotient x (pos d) ≡ Ok v
exact_value x zero q v o f h up down = absurd (omega arith)
exact_value (pos m) (suc n) q v o f h up down =
    let e : v ≡ pos q = up (omega (arith, ints)) in
    exact_up m q n h (rw (sym e) f) ∙ ap (λ z. Ok z) (sym e)
exact_value (negsuc m) (suc n) q v o f h up down =
    let e : v ≡ neg_ℤ (pos q) = down (omega (arith, ints)) in
    exact_down m q n h (rw (sym e) f) ∙ ap (λ z. Ok z) (sym e)
