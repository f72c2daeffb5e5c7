use Rattle.std.proofs.Common.{◌↔◌, drop}
use Rattle.std.specs.List.{AllByRecursion}
use Rattle.apl_loading.proofs.field.are_small.Given as goal

abbrev pub invariant-loop-field : goal.invariant-loop-field
invariant-loop-field g l = AllByRecursion g.T.Field.small (drop l.field-index l.fields) ↔ AllByRecursion g.T.Field.small l.fields
