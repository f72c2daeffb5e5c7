use Rattle.std.proofs.Common.{ℕ, ℤ, Result, ◌≡◌, ◌-◌, pos}
use Rattle.std.specs.List.{range_with_len}
use Rattle.apl_faults.specs.declared.fault.Fault.{Fault}
use Rattle.apl_arrays.specs.Results.{all_ok}
use Rattle.apl_arrays.proofs.InTurn.{after}
use Rattle.apl_folds.specs.Lines.{fold_by, line_of}
use Rattle.apl_folds.proofs.columns.push_each.Given as goal

-- the folds so far and those to come are all the folds
abbrev pub invariant-loop-at : goal.invariant-loop-at
invariant-loop-at g l =
    let fold : ℕ → Result ℤ Fault = λ p. fold_by g.F.Scalar.meaning (line_of (pos 0) (g.L.Lane.numbers l.numbers) l.axis p l.count) in
    after l.out.items (all_ok fold (range_with_len l.at (l.till - l.at))) ≡ after l.initial.out.items (all_ok fold (range_with_len l.initial.from (l.till - l.initial.from)))
