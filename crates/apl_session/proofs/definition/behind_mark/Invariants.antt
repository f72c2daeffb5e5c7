use Rattle.std.proofs.Common.{◌≡◌, length}
use Rattle.apl_session.specs.Defining.{behind_mark}
use Rattle.apl_session.proofs.definition.behind_mark.Given as goal

abbrev pub invariant-loop-first : goal.invariant-loop-first
invariant-loop-first l = behind_mark l.rest ≡ behind_mark l.fn.text

abbrev pub decreases-loop-first : goal.decreases-loop-first
decreases-loop-first l = length l.rest
