use Rattle.std.proofs.Common.{ℕ, ℤ, Result, ◌≡◌, ◌≤◌, ◌-◌, pos}
use Rattle.std.specs.List.{range_with_len}
use Rattle.apl_faults.specs.declared.fault.Fault.{Fault}
use Rattle.apl_arrays.specs.Results.{all_ok}
use Rattle.apl_arrays.proofs.InTurn.{after}
use Rattle.apl_folds.specs.Lines.{fold_by, line_of}
use Rattle.apl_folds.proofs.columns.push_columns.Given as goal

-- the folds so far and those to come are all the folds
abbrev pub invariant-loop-from : goal.invariant-loop-from
invariant-loop-from g l =
    let fold : ℕ → Result ℤ Fault = λ p. fold_by g.F.Scalar.meaning (line_of (pos 0) (g.L.Lane.numbers l.numbers) l.axis p l.count) in
    record {
      after_first : l.first ≤ l.from;
      within : l.from ≤ l.till;
      so_far : after l.out.items (all_ok fold (range_with_len l.from (l.till - l.from))) ≡ after l.initial.out.items (all_ok fold (range_with_len l.first (l.till - l.first)));
    }

abbrev pub decreases-loop-from : goal.decreases-loop-from
decreases-loop-from g l = l.till - l.from
