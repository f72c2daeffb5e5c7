use Rattle.std.proofs.Common.{◌≡◌, ℕ, ◌<◌, pos, get_or}
use Rattle.apl_scalar.specs.Functions.{residue}
use Rattle.apl_scalar.proofs.small_residues.fill_small.Given as goal

-- each number so far is what is left
abbrev pub invariant-loop-i : goal.invariant-loop-i
invariant-loop-i g l = (k : ℕ) → k < l.i → get_or l.out k (pos 0) ≡ residue (g.X.Line.number l.x k) (g.Y.Line.number l.y k)
