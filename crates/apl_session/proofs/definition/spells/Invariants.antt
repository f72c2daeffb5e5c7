use Rattle.std.proofs.Common.{◌≡◌, length}
use Rattle.apl_session.specs.Defining.{spells}
use Rattle.apl_session.proofs.definition.spells.Given as goal

abbrev pub invariant-loop-first : goal.invariant-loop-first
invariant-loop-first l = spells l.rest l.due ≡ spells l.fn.text l.fn.marks

abbrev pub decreases-loop-first : goal.decreases-loop-first
decreases-loop-first l = length l.rest
