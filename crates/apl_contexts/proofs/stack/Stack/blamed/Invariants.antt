use Rattle.std.proofs.Common.{◌≡◌, length}
use Rattle.apl_frames.specs.Ends.{IsColumn}
use Rattle.apl_contexts.specs.Contexts.{AreStacked, Place, blamed}
use Rattle.apl_contexts.specs.Stacks.{contexts_of}
use Rattle.apl_contexts.proofs.stack.Stack.blamed.Given as goal

abbrev pub invariant-loop-stack : goal.invariant-loop-stack
invariant-loop-stack l = record {
  stacked : (p : Place) × AreStacked p (contexts_of l.stack);
  column : IsColumn l.place;
  same : blamed l.place (contexts_of l.stack) ≡ blamed l.column (contexts_of l.self);
}

abbrev pub decreases-loop-stack : goal.decreases-loop-stack
decreases-loop-stack l = length (contexts_of l.stack)
