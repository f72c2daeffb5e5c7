use Rattle.std.proofs.Common.{◌≡◌, ◌+◌, length}
use Rattle.apl_operators.specs.inside.SumsOfProducts.{product_of, sum_from}
use Rattle.apl_operators.proofs.sums_of_products.sum_column.Given as goal

-- the sum is that of the last products
abbrev pub invariant-loop-i : goal.invariant-loop-i
invariant-loop-i g l = g.M.Lane.value l.sum ≡ sum_from (product_of (g.L.Lane.numbers l.xs) (g.L.Lane.numbers l.ys) l.width l.column) (l.from + l.i) (length l.xs)
