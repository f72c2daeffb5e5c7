use Rattle.std.proofs.Common.{ℕ, ◌<◌, ◌^◌}
use Rattle.apl_scalar.specs.inside.Turns.{IsSmall}
use Rattle.apl_scalar.proofs.small_residues.are_small.Given as goal

-- while no number is far, each number so far is small
abbrev pub invariant-loop-i : goal.invariant-loop-i
invariant-loop-i g l = l.far < 2 ^ 31 → (k : ℕ) → k < l.i → IsSmall (g.X.Line.number l.x k) (g.Y.Line.number l.y k)
