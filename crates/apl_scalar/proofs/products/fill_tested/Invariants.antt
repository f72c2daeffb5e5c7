use Rattle.std.proofs.Common.{◌≡◌, ℕ, ◌<◌, ◌*ℤ◌, pos, get_or, Ok}
use Rattle.apl_scalar.specs.Functions.{in_range}
use Rattle.apl_scalar.proofs.products.fill_tested.Given as goal

-- each number so far is the product
abbrev pub invariant-loop-i : goal.invariant-loop-i
invariant-loop-i g l = (k : ℕ) → k < l.i → in_range (g.X.Line.number l.x k *ℤ g.Y.Line.number l.y k) ≡ Ok (get_or l.out k (pos 0))
