use Rattle.std.proofs.Common.{◌≡◌, length}
use Rattle.apl_contexts.specs.Contexts.{nearest}
use Rattle.apl_contexts.specs.Stacks.{contexts_of}
use Rattle.apl_contexts.proofs.stack.Stack.nearest.Given as goal

abbrev pub invariant-loop-rest : goal.invariant-loop-rest
invariant-loop-rest l = nearest (contexts_of l.rest) ≡ nearest (contexts_of l.self)

abbrev pub decreases-loop-rest : goal.decreases-loop-rest
decreases-loop-rest l = length (contexts_of l.rest)
