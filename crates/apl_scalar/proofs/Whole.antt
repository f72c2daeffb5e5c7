-- All values at once.
use Rattle.std.proofs.Common.{◌≡◌, ℕ, zero, suc, ℤ, pos, ◌+◌, ◌<◌, List, [], ◌∷◌, length, get_or, replicate, Result, Ok, Err, refl, ap, sym, ◌∙◌, arith}
use Rattle.std.specs.List.{range_with_len}
use Rattle.std.proofs.lemmas.List.{length-replicate, get_or-replicate}
use Rattle.apl_faults.specs.declared.fault.Fault.{Fault}
use Rattle.apl_arrays.specs.Results.{all_ok, and_then, ok_map}
use Rattle.apl_arrays.proofs.InTurn.{turns_start, turns_whole}

-- a list that has the value for each number below n
pub all_values : (f : ℕ → Result ℤ Fault) (zs : List ℤ) (n : ℕ) → length zs ≡ n → ((k : ℕ) → k < n → f k ≡ Ok (get_or zs k (pos 0))) → all_ok f (range_with_len 0 n) ≡ Ok zs
all_values f zs n len each =
    sym (turns_start f [] n refl)
    ∙ turns_whole f (pos 0) zs [] 0 n (omega arith) (omega arith) (λ j h. ap f (there j) ∙ each j (omega arith))
  where
    there : (j : ℕ) → 0 + j ≡ j
    there j = omega arith

-- the same value for each
pub one_value : (f : ℕ → Result ℤ Fault) (z : ℤ) (n : ℕ) → ((k : ℕ) → f k ≡ Ok z) → all_ok f (range_with_len 0 n) ≡ Ok (replicate n z)
one_value f z n each =
    all_values f (replicate n z) n (length-replicate n z) (λ k h. each k ∙ ap (λ (x : ℤ). Ok x) (sym (get_or-replicate n k z (pos 0) h)))

-- the same fault for each, of which there is one at least
pub one_fault : (f : ℕ → Result ℤ Fault) (e : Fault) (n : ℕ) → 0 < n → ((k : ℕ) → f k ≡ Err e) → all_ok f (range_with_len 0 n) ≡ Err e
one_fault f e zero h each = absurd (omega arith)
one_fault f e (suc n) h each = ap (λ (r : Result ℤ Fault). and_then r (λ y. ok_map (λ ys. y ∷ ys) (all_ok f (range_with_len 1 n)))) (each 0)
