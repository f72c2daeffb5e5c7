use Rattle.std.proofs.Common.{length}
use Rattle.apl_tokens.proofs.Progress.{Reads}
use Rattle.apl_tokens.proofs.line.spelled.Given as goal

abbrev pub invariant-loop-out : goal.invariant-loop-out
invariant-loop-out l = Reads l.text l.rest l.place l.out.items

abbrev pub decreases-loop-out : goal.decreases-loop-out
decreases-loop-out l = length l.rest
