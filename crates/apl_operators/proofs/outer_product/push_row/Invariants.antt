use Rattle.std.proofs.Common.{ℕ, ℤ, Result, ◌≡◌, ◌≤◌, ◌-◌, length, get_or, pos}
use Rattle.std.specs.List.{range_with_len}
use Rattle.apl_arrays.specs.Results.{all_ok}
use Rattle.apl_arrays.proofs.InTurn.{after}
use Rattle.apl_faults.specs.declared.fault.Fault.{Fault}
use Rattle.apl_operators.proofs.outer_product.push_row.Given as goal

-- the values so far and those to come are all the values
abbrev pub invariant-loop-from : goal.invariant-loop-from
invariant-loop-from g l =
    let at : ℕ → Result ℤ Fault = λ k. g.F.Attempt.meaning l.x.0 (get_or l.ys k (pos 0)) in
    record {
      within : l.from ≤ length l.ys;
      so_far : after l.out.items (all_ok at (range_with_len l.from (length l.ys - l.from))) ≡ after l.initial.out.items (all_ok at (range_with_len 0 (length l.ys)));
    }

abbrev pub decreases-loop-from : goal.decreases-loop-from
decreases-loop-from g l = length l.ys - l.from
