use Rattle.std.proofs.lemmas.Result.{err_from_is_err_and}
use Rattle.apl_loading.proofs.OneContext.{statement_built, statement_refused}
use Rattle.apl_loading.proofs.contexts.build_statement.Goals as goal

pub returns-in_err-statement-clause-refused : goal.returns-in_err-statement-clause-refused
returns-in_err-statement-clause-refused c =
    let p = err_from_is_err_and c.from_residual.result c.from_residual.ensures.1 in
    rw (p.1, p.2) (λ m. statement_refused c.args.field.now c.args.operands.items c.in_err-statement.field-0.0 c.requires (c.in_err-statement.ensures.refused m))

pub returns-clause-found : goal.returns-clause-found
returns-clause-found c = statement_built c.args.field.now c.args.operands.items c.in_ok-statement.statement.part c.in_ok-statement.statement.awaits c.in_ok-statement.statement.listing.items c.requires c.in_ok-statement.ensures.found c.in_ok-statement.ensures.made
