use Rattle.std.proofs.Common.{drop}
use Rattle.std.specs.List.{AllByRecursion}
use Rattle.apl_loading.proofs.Lists.{HasRead}
use Rattle.apl_loading.proofs.field.read_all.Given as goal

abbrev pub invariant-loop-field : goal.invariant-loop-field
invariant-loop-field g l = HasRead g.T.Field.stands_for l.fields (drop l.field-index l.fields) l.parts.items × AllByRecursion g.T.Field.small (drop l.field-index l.fields)
