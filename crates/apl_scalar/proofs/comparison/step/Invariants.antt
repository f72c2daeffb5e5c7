use Rattle.std.proofs.Common.{◌≡◌, ℕ, ◌<◌, pos, get_or, length}
use Rattle.apl_scalar.specs.Functions.{number_of}
use Rattle.apl_scalar.proofs.comparison.step.Given as goal

-- the verdicts so far
abbrev pub invariant-loop-i : goal.invariant-loop-i
invariant-loop-i g l = record {
  size : length l.verdicts ≡ 16;
  told : (k : ℕ) → k < l.i → get_or l.verdicts k (pos 0) ≡ number_of (g.C.Comparison.meaning (g.X.Line.number l.x k) (g.Y.Line.number l.y k));
}
