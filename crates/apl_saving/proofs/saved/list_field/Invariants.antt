use Rattle.std.proofs.Common.{take}
use Rattle.apl_saved.specs.Spelled.{Pairwise}
use Rattle.apl_saving.proofs.saved.list_field.Given as goal

abbrev pub invariant-loop-item : goal.invariant-loop-item
invariant-loop-item g l = Pairwise g.T.Saved.is_field l.fields.items (take l.item-index l.items)
