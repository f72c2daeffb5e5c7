use Rattle.std.proofs.Common.{length}
use Rattle.apl_tokens.proofs.Accepting.{Checks}
use Rattle.apl_tokens.proofs.checking.is_read.Given as goal

abbrev pub invariant-loop-first : goal.invariant-loop-first
invariant-loop-first l = Checks l.text l.open l.place l.rest

abbrev pub decreases-loop-first : goal.decreases-loop-first
decreases-loop-first l = length l.rest
