use Rattle.std.proofs.Common.{ℕ, ℤ, Result, ◌≡◌, ◌≤◌, ◌-◌, length, get_or, pos}
use Rattle.std.specs.List.{range_with_len}
use Rattle.apl_arrays.specs.Results.{all_ok}
use Rattle.apl_arrays.proofs.InTurn.{after}
use Rattle.apl_faults.specs.declared.fault.Fault.{Fault}
use Rattle.apl_scalar.specs.declared.function.Dyadic.TheVariants as two
use Rattle.apl_scalar.specs.Functions.{dyadic_of}
use Rattle.apl_operators.proofs.products.push_products.Given as goal

-- the products so far and those to come are all the products
abbrev pub invariant-loop-from : goal.invariant-loop-from
invariant-loop-from g l =
    let numbers = g.M.Lane.numbers in
    let ys = g.L.Lane.numbers l.ys in
    let at : ℕ → Result ℤ Fault = λ k. dyadic_of two.Times l.x (get_or ys k (pos 0)) in
    record {
      within : l.from ≤ length l.ys;
      so_far : after (numbers l.out.items) (all_ok at (range_with_len l.from (length ys - l.from))) ≡ after (numbers l.initial.out.items) (all_ok at (range_with_len 0 (length ys)));
    }

abbrev pub decreases-loop-from : goal.decreases-loop-from
decreases-loop-from g l = length l.ys - l.from
