use Rattle.std.proofs.Common.{ℕ, ◌≡◌, ◌<◌, ◌≤ℤ◌, pos, get_or, Ok}
use Rattle.apl_scalar.proofs.in_narrow.InNarrow.fill_divided.Given as goal

-- while no flag is raised, each number so far is the value
abbrev pub invariant-loop-i : goal.invariant-loop-i
invariant-loop-i g l =
    pos 0 ≤ℤ g.L.Lane.value l.flags → (k : ℕ) → k < l.i → g.Self.Scalar.meaning (g.X.Line.number l.x k) (g.Y.Line.number l.y k) ≡ Ok (get_or (g.L.Lane.numbers l.out) k (pos 0))
