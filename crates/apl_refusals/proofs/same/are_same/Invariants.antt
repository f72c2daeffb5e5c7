use Rattle.std.proofs.Common.{◌≡◌, length}
use Rattle.apl_refusals.proofs.same.are_same.Given as goal

-- the lists are the same where what is left of them is
abbrev pub invariant-loop-rest : goal.invariant-loop-rest
invariant-loop-rest g l = l.rest ≡ l.other_rest → l.some ≡ l.others

abbrev pub decreases-loop-rest : goal.decreases-loop-rest
decreases-loop-rest g l = length l.rest
