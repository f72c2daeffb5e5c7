use Rattle.std.proofs.Common.{◌≡◌, drop, Ok}
use Rattle.apl_folds.specs.Lines.{fold_by}
use Rattle.apl_folds.proofs.fold.fold_from.Given as goal

-- what was folded so far is the fold of the last numbers
abbrev pub invariant-loop-k : goal.invariant-loop-k
invariant-loop-k g l = fold_by g.F.Scalar.meaning (drop l.k (g.L.Lane.numbers l.numbers)) ≡ Ok l.all
