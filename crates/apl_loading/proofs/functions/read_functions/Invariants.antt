use Rattle.std.proofs.Common.{drop, None}
use Rattle.apl_loading.specs.Refusals.{TakesFunction, RefusesFunction, function_after}
use Rattle.apl_loading.proofs.Taken.{HasTaken}
use Rattle.apl_loading.proofs.functions.read_functions.Given as goal

abbrev pub invariant-loop-field : goal.invariant-loop-field
invariant-loop-field l = HasTaken TakesFunction RefusesFunction function_after None l.fields (l.before) (drop l.field-index l.fields) l.functions.items
