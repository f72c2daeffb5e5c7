use Rattle.std.proofs.Common.{◌≡◌, length}
use Rattle.std.specs.Vec.Iter.{into_iter_items, into_iter_len}
use Rattle.serde_json.specs.View.{view, items_view}
use Rattle.apl_workspace_file.specs.Reading.{list_of, read_items}
use Rattle.apl_workspace_file.proofs.Lists.{with_front}
use Rattle.apl_workspace_file.proofs.leaves.ListFieldField.read.Given as goal

abbrev pub invariant-loop-item : goal.invariant-loop-item
invariant-loop-item g l = (into_iter_len l.item-iterator ≡ length (into_iter_items l.item-iterator))
    × (with_front l.found.items (read_items g.T.Field.reading (items_view (into_iter_items l.item-iterator))) ≡ list_of g.T.Field.reading (view l.fn.value))
