use Rattle.std.proofs.Common.{◌≡◌, ◌++◌, All, List, vec_len}
use Rattle.apl_names.specs.Maps.{first_map}
use Rattle.apl_parts.specs.declared.parts.ContextPart.{ContextPart}
use Rattle.apl_parts.specs.Restored.{IsContext}
use Rattle.apl_parts.specs.Making.{Stand}
use Rattle.apl_parts.proofs.resuming.put_contexts.Given as goal

-- those that are left, and those that are done, newest first
abbrev pub invariant-loop-part : goal.invariant-loop-part
invariant-loop-part l = (done : List ContextPart) × All IsContext l.parts.items × (l.parts.items ++ done ≡ l.initial.parts.items) × Stand done (first_map l.initial.names) l.names l.contexts

abbrev pub decreases-loop-part : goal.decreases-loop-part
decreases-loop-part l = vec_len l.parts
