use Rattle.std.proofs.lemmas.Result.{err_from_is_err_and}
use Rattle.apl_loading.proofs.OneContext.{execute_built, execute_refused}
use Rattle.apl_loading.proofs.contexts.build_execute.Goals as goal

pub returns-in_err-execute-clause-refused : goal.returns-in_err-execute-clause-refused
returns-in_err-execute-clause-refused c =
    let p = err_from_is_err_and c.from_residual.result c.from_residual.ensures.1 in
    rw (p.1, p.2) (λ m. execute_refused c.args.field.now c.args.operands.items c.in_err-execute.field-0.0 c.requires (c.in_err-execute.ensures.refused m))

pub returns-clause-found : goal.returns-clause-found
returns-clause-found c = execute_built c.args.field.now c.args.operands.items c.in_ok-execute.execute.part c.in_ok-execute.execute.awaits c.in_ok-execute.execute.listing.items c.requires c.in_ok-execute.ensures.found c.in_ok-execute.ensures.made
