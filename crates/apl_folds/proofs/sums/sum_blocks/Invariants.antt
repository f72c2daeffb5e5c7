use Rattle.std.proofs.Common.{◌≡◌, ◌<◌, length, drop, Ok}
use Rattle.apl_scalar.specs.declared.function.Dyadic.TheVariants as two
use Rattle.apl_scalar.specs.Functions.{dyadic_of}
use Rattle.apl_folds.specs.Lines.{fold_by}
use Rattle.apl_folds.proofs.sums.sum_blocks.Given as goal

-- what was summed so far is the fold of the last numbers
abbrev pub invariant-loop-left : goal.invariant-loop-left
invariant-loop-left l = record {
  within : l.left < length l.numbers;
  so_far : fold_by (dyadic_of two.Plus) (drop l.left l.numbers) ≡ Ok l.all;
}

abbrev pub decreases-loop-left : goal.decreases-loop-left
decreases-loop-left l = l.left
