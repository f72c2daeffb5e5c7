use Rattle.std.proofs.Common.{ℕ, ◌≡◌, ◌<◌, ◌≤ℤ◌, ◌<ℤ◌, pos, get_or, Ok}
use Rattle.std.specs.Prelude.{IsErr}
use Rattle.apl_scalar.proofs.in_wide.InWide.fill_tried.Given as goal

-- while no flag is raised, each number so far is the value, and where one is, there is none for one of them
abbrev pub invariant-loop-i : goal.invariant-loop-i
invariant-loop-i g l =
    (pos 0 ≤ℤ l.flags → (k : ℕ) → k < l.i → g.Self.Scalar.meaning (g.X.Line.number l.x k) (g.Y.Line.number l.y k) ≡ Ok (get_or l.out k (pos 0)))
    × (l.flags <ℤ pos 0 → (k : ℕ) × (k < l.i) × IsErr (g.Self.Scalar.meaning (g.X.Line.number l.x k) (g.Y.Line.number l.y k)))
