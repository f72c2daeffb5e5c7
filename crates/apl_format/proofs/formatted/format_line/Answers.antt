use Rattle.std.proofs.Common.{◌∙◌, ◌++◌, map, length, Err, sym, ap, arith}
use Rattle.std.proofs.lemmas.Result.{err_from_is_err_and}
use Rattle.apl_arrays.specs.Numbers.{values}
use Rattle.apl_arrays.proofs.Exits.{answers_along}
use Rattle.apl_format.specs.Display.{vector_line, joined, number_text}
use Rattle.apl_format.proofs.Limits.{line_over, line_made, length_line}
use Rattle.apl_format.proofs.formatted.format_line.Goals as goal

pub returns-in_err-width : goal.returns-in_err-width
returns-in_err-width c =
    let p = err_from_is_err_and c.from_residual.result c.from_residual.ensures.1 in
    rw (p.1, p.2) (line_over (values c.args.numbers) c.in_err-width.ensures.over ∙ ap Err (sym c.in_err-width.ensures.limit))

pub in_shape-requires-clause-full : goal.in_shape-requires-clause-full
unfolding vector_line
in_shape-requires-clause-full c =
    let text = ap length (c.in_ok-push_numbers.ensures ∙ ap (λ t. t ++ joined 32 (map number_text (values c.args.numbers))) c.in_ok-characters.ensures.items) in
    let line = length_line (values c.args.numbers) in
    let width = c.in_ok-width.ensures.sum in
    omega arith

pub returns : goal.returns
unfolding vector_line
returns c =
    answers_along (λ a. a) _ _ c.in_shape.result
    (line_made (values c.args.numbers) c.in_ok-width.ensures.sum (c.in_ok-push_numbers.ensures ∙ ap (λ t. t ++ joined 32 (map number_text (values c.args.numbers))) c.in_ok-characters.ensures.items))
    c.in_shape.ensures
