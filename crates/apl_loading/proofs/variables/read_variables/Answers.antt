use Rattle.std.proofs.Common.{◌+◌, drop, None, Some, sym, subst}
use Rattle.std.proofs.lemmas.Result.{err_from_is_err_and}
use Rattle.apl_saved.specs.Rules.{function_names}
use Rattle.apl_loading.specs.Refusals.{TakesVariable, RefusesVariable, variable_after}
use Rattle.apl_loading.proofs.Lists.{drop_past}
use Rattle.apl_loading.proofs.Taken.{HasTaken, all_taken, more_taken, none_taken, not_taken}
use Rattle.apl_loading.proofs.variables.read_variables.Goals as goal

pub loop-field-init : goal.loop-field-init
loop-field-init c =
    let names = function_names c.args.functions.now in
    subst (λ ps. HasTaken (TakesVariable names) (RefusesVariable names) variable_after None c.args.fields.now None c.args.fields.now ps) (sym c.in_ok-variables.ensures.items)
    (none_taken (TakesVariable names) (RefusesVariable names) variable_after None c.args.fields.now)

pub returns-in_err-variable-clause-refused : goal.returns-in_err-variable-clause-refused
returns-in_err-variable-clause-refused c =
    let p = err_from_is_err_and c.from_residual-in_err-variable.result c.from_residual-in_err-variable.ensures.1 in
    let names = function_names c.args.functions.now in
    rw (p.1, p.2) (λ m.
    not_taken (TakesVariable names) (RefusesVariable names) variable_after None c.args.fields.now c.loop-field.before c.loop-field.field-index c.loop-field.variables.items c.field-item.result c.in_err-variable.field-0.0 c.loop-field.invariant c.loop-field-test.true c.field-item.is (c.in_err-variable.ensures.refused m))

pub loop-field-preserved : goal.loop-field-preserved
loop-field-preserved c =
    let names = function_names c.args.functions.now in
    let rest = drop (c.loop-field.field-index + 1) c.args.fields.now in
    let v = c.in_ok-variable.variable in
    subst (λ ps. HasTaken (TakesVariable names) (RefusesVariable names) variable_after None c.args.fields.now (Some v.0) rest ps) (sym c.in_ok-push.ensures.items)
    (more_taken (TakesVariable names) (RefusesVariable names) variable_after None c.args.fields.now c.loop-field.before c.loop-field.field-index c.loop-field.variables.items c.field-item.result v c.loop-field.invariant c.loop-field-test.true c.field-item.is c.in_ok-variable.ensures.found)

pub returns-clause-found : goal.returns-clause-found
returns-clause-found c =
    let names = function_names c.args.functions.now in
    all_taken (TakesVariable names) (RefusesVariable names) variable_after None c.args.fields.now c.loop-field.before (drop c.loop-field.field-index c.args.fields.now) c.loop-field.variables.items c.loop-field.invariant (drop_past c.args.fields.now c.loop-field.field-index c.loop-field-test.false)
