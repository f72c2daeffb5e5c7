use Rattle.std.proofs.Common.{ℕ, ℤ, Result, ◌≡◌, ◌-◌, length, get_or, pos}
use Rattle.std.specs.List.{range_with_len}
use Rattle.apl_arrays.specs.Results.{all_ok}
use Rattle.apl_arrays.proofs.InTurn.{after}
use Rattle.apl_faults.specs.declared.fault.Fault.{Fault}
use Rattle.apl_scalar.specs.declared.function.Dyadic.TheVariants as two
use Rattle.apl_scalar.specs.Functions.{dyadic_of}
use Rattle.apl_operators.proofs.products.push_few.Given as goal

-- the products so far and those to come are all the products
abbrev pub invariant-loop-k : goal.invariant-loop-k
invariant-loop-k g l =
    let numbers = g.M.Lane.numbers in
    let ys = g.L.Lane.numbers l.ys in
    let at : ℕ → Result ℤ Fault = λ k. dyadic_of two.Times l.x (get_or ys k (pos 0)) in
    after (numbers l.out.items) (all_ok at (range_with_len l.k (length ys - l.k))) ≡ after (numbers l.initial.out.items) (all_ok at (range_with_len 0 (length ys)))
