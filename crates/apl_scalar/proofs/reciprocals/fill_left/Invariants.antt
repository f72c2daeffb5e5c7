use Rattle.std.proofs.Common.{◌≡◌, ℕ, ◌<◌, pos, get_or}
use Rattle.apl_scalar.specs.Functions.{residue}
use Rattle.apl_scalar.proofs.reciprocals.fill_left.Given as goal

-- each number so far is what is left
abbrev pub invariant-loop-i : goal.invariant-loop-i
invariant-loop-i g l = (k : ℕ) → k < l.i → get_or l.out k (pos 0) ≡ residue (pos l.divisor) (g.Y.Line.number l.y k)
