-- Results of which one has a fault.
use Rattle.std.proofs.Common.{zero, suc, ◌≡◌, ℕ, ℤ, pos, ◌+◌, ◌<◌, List, ◌∷◌, get_or, Result, Ok, Err, ap, sym, ◌∙◌, arith}
use Rattle.std.specs.List.{range_with_len}
use Rattle.apl_faults.specs.declared.fault.Fault.{Fault}
use Rattle.apl_arrays.specs.Results.{and_then, ok_map, all_ok}

fault_from : {B E : Type 0} (f : ℕ → Result B E) (e : E) (value : ℕ → B) (a n k : ℕ) → k < n → ((j : ℕ) → j < k → f (a + j) ≡ Ok (value (a + j))) → f (a + k) ≡ Err e → all_ok f (range_with_len a n) ≡ Err e
fault_from f e value a zero k h each last = absurd (omega arith)
fault_from {B = B} {E = E} f e value a (suc n) zero h each last =
    ap (λ (r : Result B E). and_then r (λ y. ok_map (λ ys. y ∷ ys) (all_ok f (range_with_len (a + 1) n)))) (ap f (there a) ∙ last)
  where
    there : (a : ℕ) → a ≡ a + 0
    there a = omega arith
fault_from {B = B} {E = E} f e value a (suc n) (suc k) h each last =
    ap (λ (r : Result B E). and_then r (λ y. ok_map (λ ys. y ∷ ys) (all_ok f (range_with_len (a + 1) n)))) (ap f (there a) ∙ each 0 (omega arith))
    ∙ ap (ok_map (λ ys. value (a + 0) ∷ ys))
    (fault_from f e value (a + 1) n k (omega arith) (λ j l. ap f (next a j) ∙ each (suc j) (omega arith) ∙ ap (λ (i : ℕ). Ok (value i)) (sym (next a j))) (ap f (next a k) ∙ last))
  where
    there : (a : ℕ) → a ≡ a + 0
    there a = omega arith

    next : (a j : ℕ) → a + 1 + j ≡ a + suc j
    next a j = omega arith

-- the first fault after values
pub first_fault : (f : ℕ → Result ℤ Fault) (zs : List ℤ) (e : Fault) (k n : ℕ) → k < n → ((j : ℕ) → j < k → f j ≡ Ok (get_or zs j (pos 0))) → f k ≡ Err e → all_ok f (range_with_len 0 n) ≡ Err e
first_fault f zs e k n h each last =
    fault_from f e (λ j. get_or zs j (pos 0)) 0 n k h (λ j l. ap f (there j) ∙ each j l ∙ ap (λ (i : ℕ). Ok (get_or zs i (pos 0))) (sym (there j))) (ap f (there k) ∙ last)
  where
    there : (j : ℕ) → 0 + j ≡ j
    there j = omega arith

-- a fault of the first number
pub fails_first : {B E : Type 0} (f : ℕ → Result B E) (e : E) (n : ℕ) → 0 < n → f 0 ≡ Err e → all_ok f (range_with_len 0 n) ≡ Err e
fails_first f e zero h g = absurd (omega arith)
fails_first {B = B} {E = E} f e (suc n) h g = ap (λ (r : Result B E). and_then r (λ y. ok_map (λ ys. y ∷ ys) (all_ok f (range_with_len 1 n)))) g
