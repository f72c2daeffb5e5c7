use Rattle.std.proofs.Common.{◌≡◌, ◌<◌, ◌≤ℤ◌, pos, length}
use Rattle.apl_folds.specs.Lines.{AreFoldsFrom}
use Rattle.apl_folds.proofs.columns.fold_fours.Given as goal

-- while no flag is raised, each fold is that of the last numbers of its line
abbrev pub invariant-loop-left : goal.invariant-loop-left
invariant-loop-left g l = record {
  few : l.left < l.count;
  size : length l.folds ≡ length l.initial.folds;
  so_far : pos 0 ≤ℤ l.flags → AreFoldsFrom g.S.Step.meaning (g.L.Lane.numbers l.numbers) l.axis l.at l.count l.left l.folds;
}

abbrev pub decreases-loop-left : goal.decreases-loop-left
decreases-loop-left g l = l.left
