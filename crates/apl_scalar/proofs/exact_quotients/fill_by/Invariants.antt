use Rattle.std.proofs.Common.{◌≡◌, ℕ, ◌<◌, ◌*◌, ◌%◌, ◌^◌, pos, get_or, Ok}
use Rattle.apl_scalar.specs.Functions.{quotient}
use Rattle.apl_scalar.proofs.exact_quotients.fill_by.Given as goal

-- while none is beyond the reach and no bit that is shifted out is set, each number so far is the exact quotient
abbrev pub invariant-loop-i : goal.invariant-loop-i
invariant-loop-i g l = l.raised < 2 * l.by.reach → l.raised % 2 ^ l.by.shift ≡ 0 → (k : ℕ) → k < l.i → quotient (g.X.Line.number l.x k) (pos l.divisor) ≡ Ok (get_or l.out k (pos 0))
