use Rattle.std.proofs.Common.{refl, sym, ap, ◌∙◌}
use Rattle.std.specs.Prelude.{is_some}
use Rattle.std.proofs.lemmas.Result.{err_from_is_err_and}
use Rattle.apl_loading.proofs.OneLine.{no_tokens, labelled}
use Rattle.apl_loading.proofs.lines.read_statement_line.Goals as goal

pub returns-in_err-tokens-clause-refused : goal.returns-in_err-tokens-clause-refused
returns-in_err-tokens-clause-refused c =
    let p = err_from_is_err_and c.from_residual-in_err-tokens.result c.from_residual-in_err-tokens.ensures.1 in
    rw (p.1, p.2) (λ m. ((c.in_err-tokens.ensures.refused m).0, no_tokens c.args.field.now c.in_ok-text.text c.as_slice.result.now c.in_ok-text.ensures.found c.as_slice.ensures (c.in_err-tokens.ensures.refused m).1))

pub returns-then-is_some-clause-refused : goal.returns-then-is_some-clause-refused
returns-then-is_some-clause-refused c m = (refl, labelled c.args.field.now c.in_ok-text.text c.as_slice.result.now c.in_ok-tokens.tokens.items c.as_slice-2.result.now c.in_ok-text.ensures.found c.as_slice.ensures c.in_ok-tokens.ensures.found c.as_slice-2.ensures.value (ap is_some (sym c.label_in.ensures) ∙ sym c.is_some.ensures ∙ c.if-is_some.true))
