use Rattle.std.proofs.Common.{take}
use Rattle.apl_saved.specs.Spelled.{IsContextOf, Pairwise}
use Rattle.apl_saving.proofs.contexts.contexts_field.Given as goal

abbrev pub invariant-loop-part : goal.invariant-loop-part
invariant-loop-part l = Pairwise IsContextOf l.fields.items (take l.part-index l.parts)
