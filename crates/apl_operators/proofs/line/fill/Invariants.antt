use Rattle.std.proofs.Common.{◌≡◌, ℕ, ◌<◌, ◌≤ℤ◌, ◌<ℤ◌, pos, get_or, Ok}
use Rattle.apl_operators.proofs.line.fill.Given as goal

-- while no flag is raised, each number so far is the value, and where one is, the value of one of them was not found
abbrev pub invariant-loop-i : goal.invariant-loop-i
invariant-loop-i g l =
    (pos 0 ≤ℤ l.flags → (k : ℕ) → k < l.i → g.F.Attempt.meaning (g.X.Line.number l.x k) (g.Y.Line.number l.y k) ≡ Ok (get_or l.out k (pos 0)))
    × (l.flags <ℤ pos 0 → (k : ℕ) × (k < l.i) × (g.F.Attempt.finds (g.X.Line.number l.x k) (g.Y.Line.number l.y k) → ⊥))
