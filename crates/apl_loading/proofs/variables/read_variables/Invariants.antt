use Rattle.std.proofs.Common.{drop, None}
use Rattle.apl_saved.specs.Rules.{function_names}
use Rattle.apl_loading.specs.Refusals.{TakesVariable, RefusesVariable, variable_after}
use Rattle.apl_loading.proofs.Taken.{HasTaken}
use Rattle.apl_loading.proofs.variables.read_variables.Given as goal

abbrev pub invariant-loop-field : goal.invariant-loop-field
invariant-loop-field l =
    let names = function_names l.fn.functions in
    HasTaken (TakesVariable names) (RefusesVariable names) variable_after None l.fields l.before (drop l.field-index l.fields) l.variables.items
