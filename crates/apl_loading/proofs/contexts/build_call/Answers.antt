use Rattle.std.proofs.Common.{inl, sym, subst}
use Rattle.std.proofs.lemmas.Result.{err_from_is_err_and}
use Rattle.apl_defn.specs.Defining.{IsDefined}
use Rattle.apl_saved.specs.Spelled.{IsDefinitionOf}
use Rattle.apl_loading.specs.Refusals.{IsValueOf}
use Rattle.apl_loading.proofs.Lists.{pair_length}
use Rattle.apl_loading.proofs.OneContext.{call_built, call_refused}
use Rattle.apl_loading.proofs.contexts.build_call.Goals as goal

pub returns-in_err-definition-clause-refused : goal.returns-in_err-definition-clause-refused
returns-in_err-definition-clause-refused c =
    let p = err_from_is_err_and c.from_residual.result c.from_residual.ensures.1 in
    rw (p.1, p.2) (λ m. inl (λ x. (c.in_err-definition.ensures.refused m).1 x.0 (subst (λ ls. IsDefinitionOf c.args.field.now.header ls x.0 × IsDefined x.0) (sym c.as_slice.ensures) x.1), (c.in_err-definition.ensures.refused m).0))

pub returns-in_err-call-clause-refused : goal.returns-in_err-call-clause-refused
returns-in_err-call-clause-refused c =
    let p = err_from_is_err_and c.from_residual-in_err-call.result c.from_residual-in_err-call.ensures.1 in
    let dd = subst (λ ls. IsDefinitionOf c.args.field.now.header ls c.in_ok-definition.definition × IsDefined c.in_ok-definition.definition) c.as_slice.ensures c.in_ok-definition.ensures.found in
    rw (p.1, p.2) (λ m. call_refused c.args.field.now c.args.values.locals.items c.args.values.operands.items c.in_ok-definition.definition c.in_err-call.field-0.0 dd c.requires (c.in_err-call.ensures.refused m))

pub returns-clause-found : goal.returns-clause-found
returns-clause-found c =
    let dd = subst (λ ls. IsDefinitionOf c.args.field.now.header ls c.in_ok-definition.definition × IsDefined c.in_ok-definition.definition) c.as_slice.ensures c.in_ok-definition.ensures.found in
    call_built c.args.field.now c.args.values.locals.items c.args.values.operands.items c.in_ok-definition.definition c.in_ok-call.call.part c.in_ok-call.call.awaits c.in_ok-call.call.listing.items dd c.requires c.in_ok-call.ensures.found c.in_ok-call.ensures.made

pub read_call-requires : goal.read_call-requires
read_call-requires c = pair_length IsValueOf c.args.field.now.locals c.args.values.locals.items c.requires.of_locals
