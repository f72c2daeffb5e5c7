use Rattle.std.proofs.Common.{◌≡◌, ℕ, ◌<◌, ◌≤◌, ◌-◌, pos, get_or, length}
use Rattle.apl_scalar.specs.Functions.{number_of}
use Rattle.apl_scalar.proofs.comparison.ComparedTells.fill_told.Given as goal

-- the verdicts of the steps so far
abbrev pub invariant-loop-out : goal.invariant-loop-out
invariant-loop-out g l = record {
  within : l.at ≤ length l.out;
  told : (k : ℕ) → k < l.at → get_or l.out k (pos 0) ≡ number_of (g.C.Comparison.meaning (g.X.Line.number l.x k) (g.Y.Line.number l.y k));
}

-- the verdicts so far
abbrev pub invariant-loop-i : goal.invariant-loop-i
invariant-loop-i g l = (k : ℕ) → k < l.i → get_or l.out k (pos 0) ≡ number_of (g.C.Comparison.meaning (g.X.Line.number l.x k) (g.Y.Line.number l.y k))

-- the places that are left
abbrev pub decreases-loop-out : goal.decreases-loop-out
decreases-loop-out g l = length l.out - l.at
