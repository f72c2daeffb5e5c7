use Rattle.std.proofs.lemmas.Result.{err_from_is_err_and}
use Rattle.apl_loading.proofs.OneLine.{no_call_line}
use Rattle.apl_loading.proofs.pendent.read_call_line.Goals as goal

pub returns-in_err-line-in-Some-clause-refused : goal.returns-in_err-line-in-Some-clause-refused
returns-in_err-line-in-Some-clause-refused c =
    let p = err_from_is_err_and c.from_residual.result c.from_residual.ensures.1 in
    rw (p.1, p.2) (λ m. ((c.in_err-line-in-Some.ensures.refused m).0, no_call_line c.args.tokens.now c.args.field.now c.in-Some.field c.args.operands.items c.in-Some.is (c.in_err-line-in-Some.ensures.refused m).1))
