use Rattle.std.proofs.Common.{◌≡◌, length}
use Rattle.apl_folds.specs.inside.Prefixes.{ArePrefixes}
use Rattle.apl_folds.proofs.prefixes.fold_rest.Given as goal

-- the prefixes so far
abbrev pub invariant-loop-at : goal.invariant-loop-at
invariant-loop-at g l = record {
  size : length l.out ≡ length l.fn.out;
  prefixes : ArePrefixes g.F.Scalar.meaning (g.L.Lane.numbers l.numbers) l.axis l.at l.out;
}
