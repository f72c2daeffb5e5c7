use Rattle.std.proofs.Common.{sym, subst}
use Rattle.std.proofs.lemmas.Result.{err_from_is_err_and}
use Rattle.apl_loading.specs.inside.Made.{IsWaitingBy}
use Rattle.apl_loading.proofs.OneLine.{no_statement}
use Rattle.apl_loading.proofs.pendent.read_statement.Goals as goal

pub returns-in_err-line-clause-refused : goal.returns-in_err-line-clause-refused
returns-in_err-line-clause-refused c =
    let p = err_from_is_err_and c.from_residual-in_err-line.result c.from_residual-in_err-line.ensures.1 in
    rw (p.1, p.2) (λ m. ((c.in_err-line.ensures.refused m).0, no_statement c.args.field.now c.in_ok-text.field-0.text c.in_ok-text.field-0.tokens.items c.args.operands.items c.in_ok-text.ensures.found (λ w h. (c.in_err-line.ensures.refused m).1 w (subst (λ ts. IsWaitingBy ts c.args.field.now.rest c.args.operands.items w) (sym (c.as_slice.ensures.value)) h))))
