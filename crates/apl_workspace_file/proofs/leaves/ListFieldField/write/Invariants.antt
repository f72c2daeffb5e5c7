use Rattle.std.proofs.Common.{◌≡◌, take, map}
use Rattle.serde_json.specs.View.{view}
use Rattle.apl_workspace_file.proofs.leaves.ListFieldField.write.Given as goal

abbrev pub invariant-loop-field : goal.invariant-loop-field
invariant-loop-field g l = map view l.items.items ≡ map g.T.Field.tree (take l.field-index l.fields)
