use Rattle.std.proofs.Common.{◌≡◌, ◌<◌, ℕ, cond, nat_eq, get_or, pos}
use Rattle.apl_scalar.proofs.characters.compare_with.Given as goal

-- the verdicts so far
abbrev pub invariant-loop-i : goal.invariant-loop-i
invariant-loop-i l = (k : ℕ) → k < l.i → get_or l.out k (pos 0) ≡ cond (nat_eq l.one (get_or l.many k 0)) l.verdicts.same l.verdicts.other
