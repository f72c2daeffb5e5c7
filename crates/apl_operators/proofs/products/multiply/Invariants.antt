use Rattle.std.proofs.Common.{◌≡◌, ◌<◌, ◌*ℤ◌, ℕ, get_or, pos}
use Rattle.apl_operators.proofs.products.multiply.Given as goal

-- each number so far is the product
abbrev pub invariant-loop-k : goal.invariant-loop-k
invariant-loop-k g l = (k : ℕ) → k < l.k → get_or (g.M.Lane.numbers l.out) k (pos 0) ≡ l.x *ℤ get_or (g.L.Lane.numbers l.ys) k (pos 0)
