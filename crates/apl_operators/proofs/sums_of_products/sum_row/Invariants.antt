use Rattle.std.proofs.Common.{◌≤◌, length}
use Rattle.apl_operators.specs.inside.SumsOfProducts.{AreRowSums}
use Rattle.apl_operators.proofs.sums_of_products.sum_row.Given as goal

-- the sums of the last products are known
abbrev pub invariant-loop-k : goal.invariant-loop-k
invariant-loop-k g l = record {
  within : l.k ≤ length l.xs;
  so_far : AreRowSums (g.L.Lane.numbers l.xs) (g.L.Lane.numbers l.ys) (length l.initial.sums) (length l.xs) l.k (g.M.Lane.numbers l.sums);
}

abbrev pub decreases-loop-k : goal.decreases-loop-k
decreases-loop-k g l = l.k
