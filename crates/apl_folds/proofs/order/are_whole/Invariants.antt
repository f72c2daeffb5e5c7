use Rattle.apl_folds.proofs.Whole.{WholeFrom}
use Rattle.apl_folds.proofs.order.are_whole.Given as goal

-- the axes from here on are those of a whole array
abbrev pub invariant-loop-k : goal.invariant-loop-k
invariant-loop-k l = WholeFrom l.axes l.k l.size
