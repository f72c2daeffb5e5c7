use Rattle.std.proofs.Common.{◌≡◌, drop, Ok}
use Rattle.apl_scalar.specs.Functions.{logical}
use Rattle.apl_scalar.specs.Operands.{IsTruth}
use Rattle.apl_folds.specs.Lines.{fold_by}
use Rattle.apl_folds.proofs.truths.fold_truths.Given as goal

-- while the bound says so, what was folded so far is 0 or 1, and the fold of the last numbers
abbrev pub invariant-loop-k : goal.invariant-loop-k
invariant-loop-k g l =
    let value = g.L.Lane.value in
    IsTruth (value l.bound) → IsTruth (value l.all) × (fold_by (logical g.C.Connective.meaning) (drop l.k (g.L.Lane.numbers l.numbers)) ≡ Ok (value l.all))
