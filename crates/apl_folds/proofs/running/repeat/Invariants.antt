use Rattle.std.proofs.Common.{◌≡◌, ◌<◌, ◌≤◌, ℕ, ℤ, List, length, Result, Ok}
use Rattle.apl_faults.specs.declared.fault.Fault.{Fault}
use Rattle.apl_arrays.specs.declared.axis.Axis.{Axis}
use Rattle.apl_folds.specs.inside.Prefixes.{prefix_fold, ArePrefixes}
use Rattle.apl_folds.proofs.running.repeat.Given as goal

-- the prefixes so far
abbrev pub invariant-loop-at : goal.invariant-loop-at
invariant-loop-at g l = record {
  size : length l.out ≡ length l.fn.out;
  prefixes : (f : ℤ → ℤ → Result ℤ Fault) (zs : List ℤ) (axis : Axis) → ArePrefixes f zs axis l.from (g.M.Lane.numbers l.fn.out) → ((q : ℕ) → l.from ≤ q → q < l.fn.till → prefix_fold f zs axis q ≡ Ok (g.M.Lane.value l.fold)) → ArePrefixes f zs axis l.at (g.M.Lane.numbers l.out);
}
