use Rattle.std.proofs.Common.{◌≡◌, ◌<◌, ◌≤◌, ℕ, pos, get_or, length}
use Rattle.apl_operators.specs.inside.SumsOfProducts.{product_of, sum_from}
use Rattle.apl_operators.proofs.sums_of_products.add_rows.Given as goal

-- each sum so far has its products, and those to come stand as they were
abbrev pub invariant-loop-column : goal.invariant-loop-column
invariant-loop-column g l = record {
  so_far : (q : ℕ) → q < l.column → get_or (g.M.Lane.numbers l.sums) q (pos 0) ≡ sum_from (product_of (g.L.Lane.numbers l.xs) (g.L.Lane.numbers l.ys) (length l.initial.sums) q) l.from (length l.xs);
  others : (q : ℕ) → l.column ≤ q → get_or (g.M.Lane.numbers l.sums) q (pos 0) ≡ get_or (g.M.Lane.numbers l.initial.sums) q (pos 0);
}
