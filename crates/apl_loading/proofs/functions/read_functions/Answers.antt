use Rattle.std.proofs.Common.{◌≡◌, ◌+◌, drop, None, Some, inl, sym, ap, ◌∙◌, subst}
use Rattle.std.proofs.lemmas.Result.{err_from_is_err_and}
use Rattle.apl_defn.specs.Definitions.{Definition, Header}
use Rattle.apl_loading.specs.Refusals.{TakesFunction, RefusesFunction, function_after}
use Rattle.apl_loading.proofs.Lists.{drop_past}
use Rattle.apl_loading.proofs.Taken.{HasTaken, all_taken, more_taken, not_taken}
use Rattle.apl_loading.proofs.functions.read_functions.Goals as goal

pub returns-in_err-function-clause-refused : goal.returns-in_err-function-clause-refused
returns-in_err-function-clause-refused c =
    let p = err_from_is_err_and c.from_residual-in_err-function.result c.from_residual-in_err-function.ensures.1 in
    rw (p.1, p.2) (λ m.
    let r = c.in_err-function.ensures.refused m in
    not_taken TakesFunction RefusesFunction function_after None c.args.fields.now c.loop-field.before c.loop-field.field-index c.loop-field.functions.items c.field-item.result c.in_err-function.field-0.0 c.loop-field.invariant c.loop-field-test.true c.field-item.is (inl (λ w. r.1 w.0 w.1, r.0)))

pub loop-field-preserved : goal.loop-field-preserved
loop-field-preserved c =
    let name : c.header.result.now.name ≡ c.in_ok-function.function.definition.header.name = ap (λ (h : Header). h.name) (c.header.ensures.value ∙ ap (λ (d : Definition). d.header) (c.definition.ensures ∙ c.function.ensures)) in
    let rest = drop (c.loop-field.field-index + 1) c.args.fields.now in
    subst (λ n. HasTaken TakesFunction RefusesFunction function_after None c.args.fields.now (Some n) rest c.push.new.self.items) (sym name)
    (subst (λ ps. HasTaken TakesFunction RefusesFunction function_after None c.args.fields.now (Some c.in_ok-function.function.definition.header.name) rest ps) (sym c.in_ok-push.ensures.items)
    (more_taken TakesFunction RefusesFunction function_after None c.args.fields.now c.loop-field.before c.loop-field.field-index c.loop-field.functions.items c.field-item.result c.in_ok-function.function c.loop-field.invariant c.loop-field-test.true c.field-item.is c.in_ok-function.ensures.found))

pub returns-clause-found : goal.returns-clause-found
returns-clause-found c = all_taken TakesFunction RefusesFunction function_after None c.args.fields.now c.loop-field.before (drop c.loop-field.field-index c.args.fields.now) c.loop-field.functions.items c.loop-field.invariant (drop_past c.args.fields.now c.loop-field.field-index c.loop-field-test.false)
