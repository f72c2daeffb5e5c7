use Rattle.std.proofs.Common.{◌≡◌, drop, pos, Ok}
use Rattle.apl_folds.specs.Lines.{fold_by, line_of}
use Rattle.apl_folds.proofs.line.fold_strided.Given as goal

-- what was folded so far is the fold of the last numbers
abbrev pub invariant-loop-k : goal.invariant-loop-k
invariant-loop-k g l = fold_by g.F.Scalar.meaning (drop l.k (line_of (pos 0) (g.L.Lane.numbers l.numbers) l.axis l.at l.count)) ≡ Ok l.all
