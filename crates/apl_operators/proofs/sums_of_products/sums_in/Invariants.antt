use Rattle.apl_operators.specs.inside.SumsOfProducts.{AreSums}
use Rattle.apl_operators.proofs.sums_of_products.sums_in.Given as goal

-- the sums are those of so many rows
abbrev pub invariant-loop-r : goal.invariant-loop-r
invariant-loop-r g l = AreSums (g.L.Lane.numbers l.xs) (g.L.Lane.numbers l.ys) l.joint l.r (g.M.Lane.numbers l.sums.items)
