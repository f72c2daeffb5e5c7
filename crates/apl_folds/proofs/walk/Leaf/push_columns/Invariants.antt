use Rattle.std.proofs.Common.{ℕ, ℤ, Result, ◌≡◌, ◌-◌}
use Rattle.std.specs.List.{range_with_len}
use Rattle.apl_faults.specs.declared.fault.Fault.{Fault}
use Rattle.apl_arrays.specs.Results.{all_ok}
use Rattle.apl_arrays.proofs.InTurn.{after}
use Rattle.apl_folds.proofs.walk.Leaf.push_columns.Given as goal

-- the values so far and those to come are all the values
abbrev pub invariant-loop-at : goal.invariant-loop-at
invariant-loop-at g l =
    let made : ℕ → Result ℤ Fault = λ p. g.Self.Leaf.gives l.self p l.count in
    after l.out.items (all_ok made (range_with_len l.at (l.till - l.at))) ≡ after l.initial.out.items (all_ok made (range_with_len l.initial.from (l.till - l.initial.from)))
