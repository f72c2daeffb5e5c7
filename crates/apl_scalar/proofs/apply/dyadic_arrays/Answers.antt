use Rattle.std.proofs.Common.{sym}
use Rattle.apl_arrays.proofs.Exits.{answers_along}
use Rattle.apl_scalar.proofs.Extension.{first_shape, dyadic_in_shape}
use Rattle.apl_scalar.proofs.apply.dyadic_arrays.Goals as goal

pub shaped-requires-in-Ok-false-clause-b_fits : goal.shaped-requires-in-Ok-false-clause-b_fits
shaped-requires-in-Ok-false-clause-b_fits c =
    first_shape c.args.a.now.shape c.args.b.now.shape (rw (c.shape.ensures.value, c.shape-2.ensures.value, c.in-Ok-false.field-0-test) at c.in-Ok-false.ensures)

pub returns-in-Ok-true-clause-value : goal.returns-in-Ok-true-clause-value
returns-in-Ok-true-clause-value c =
    answers_along (λ r. r) _ _ c.shaped.result
    (sym (dyadic_in_shape c.args.function c.args.a.now c.args.b.now c.args.b.now.shape (rw (c.shape.ensures.value, c.shape-2.ensures.value, c.in-Ok-true.field-0-test) at c.in-Ok-true.ensures)))
    c.shaped.ensures

pub returns-in-Ok-false-clause-value : goal.returns-in-Ok-false-clause-value
returns-in-Ok-false-clause-value c =
    answers_along (λ r. r) _ _ c.shaped-in-Ok-false.result
    (sym (dyadic_in_shape c.args.function c.args.a.now c.args.b.now c.args.a.now.shape (rw (c.shape.ensures.value, c.shape-2.ensures.value, c.in-Ok-false.field-0-test) at c.in-Ok-false.ensures)))
    c.shaped-in-Ok-false.ensures
