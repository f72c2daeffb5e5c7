use Rattle.std.proofs.Common.{◌≡◌, take}
use Rattle.apl_folds.specs.inside.Sums.{total}
use Rattle.apl_folds.proofs.sums.sum_in.Given as goal

abbrev pub invariant-loop-number : goal.invariant-loop-number
invariant-loop-number g l = g.M.Lane.value l.sum ≡ total (take l.number-index (g.L.Lane.numbers l.numbers))
