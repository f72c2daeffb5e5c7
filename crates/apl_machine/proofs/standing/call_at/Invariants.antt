use Rattle.std.proofs.Common.{◌≡◌, length}
use Rattle.std.specs.Prelude.{slice_get}
use Rattle.apl_contexts.specs.Stacks.{contexts_of}
use Rattle.apl_machine.specs.inside.Callers.{callers_in}
use Rattle.apl_machine.proofs.standing.call_at.Given as goal

abbrev pub invariant-loop-stack : goal.invariant-loop-stack
invariant-loop-stack l = slice_get (callers_in (contexts_of l.stack)) l.left ≡ slice_get (callers_in l.contexts) l.k

abbrev pub decreases-loop-stack : goal.decreases-loop-stack
decreases-loop-stack l = length (contexts_of l.stack)
