-- Values of digits one after another.
use Rattle.std.proofs.Common.{◌≡◌, ℕ, ℤ, ◌+ℤ◌, ◌*ℤ◌, ◌+◌, ◌-◌, ◌<◌, ◌≤◌, List, map, Result, Ok, Err, ap, sym, ◌∙◌}
use Rattle.std.specs.List.{range_with_len}
use Rattle.apl_faults.specs.declared.fault.Fault.{Fault}
use Rattle.apl_arrays.specs.Results.{and_then}
use Rattle.apl_arrays.proofs.InTurn.{range_step, range_none}
use Rattle.apl_scalar.specs.Functions.{in_range}
use Rattle.apl_search.specs.Decoded.{valued}

pub value_step : (f : ℕ → ℤ × ℤ) (v w : ℤ) (k n : ℕ) → k < n → in_range (v *ℤ (f k).0 +ℤ (f k).1) ≡ Ok w →
    valued w (map f (range_with_len (k + 1) (n - (k + 1)))) ≡ valued v (map f (range_with_len k (n - k)))
value_step f v w k n h e =
    ap (λ (r : Result ℤ Fault). and_then r (λ x. valued x (map f (range_with_len (k + 1) (n - (k + 1)))))) (sym e)
    ∙ ap (λ (l : List ℕ). valued v (map f l)) (sym (range_step k n h))

pub value_fault : (f : ℕ → ℤ × ℤ) (v : ℤ) (e : Fault) (k n : ℕ) → k < n → in_range (v *ℤ (f k).0 +ℤ (f k).1) ≡ Err e → valued v (map f (range_with_len k (n - k))) ≡ Err e
value_fault f v e k n h g =
    ap (λ (l : List ℕ). valued v (map f l)) (range_step k n h)
    ∙ ap (λ (r : Result ℤ Fault). and_then r (λ x. valued x (map f (range_with_len (k + 1) (n - (k + 1)))))) g

pub value_end : (f : ℕ → ℤ × ℤ) (v : ℤ) (k n : ℕ) → n ≤ k → valued v (map f (range_with_len k (n - k))) ≡ Ok v
value_end f v k n h = ap (λ (l : List ℕ). valued v (map f l)) (range_none k n h)
