use Rattle.std.proofs.Common.{ℕ, ◌≡◌, ◌<◌, pos, get_or, Ok}
use Rattle.apl_scalar.proofs.in_narrow.fill_cut.Given as goal

-- each number so far is the value
abbrev pub invariant-loop-i : goal.invariant-loop-i
invariant-loop-i g l =
    (k : ℕ) → k < l.i → g.F.Scalar.meaning (g.X.Line.number l.x k) (g.Y.Line.number l.y k) ≡ Ok (get_or (g.L.Lane.numbers l.out) k (pos 0))
