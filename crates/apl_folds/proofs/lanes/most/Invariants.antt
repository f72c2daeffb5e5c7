use Rattle.std.proofs.Common.{ℕ, ◌<◌, pos, get_or, FitsSigned}
use Rattle.apl_folds.proofs.lanes.most.Given as goal

-- the numbers so far fit their type
abbrev pub invariant-loop-number : goal.invariant-loop-number
invariant-loop-number g l = (k : ℕ) → k < l.number-index → FitsSigned g.L.Lane.width (get_or (g.L.Lane.numbers l.numbers) k (pos 0))
