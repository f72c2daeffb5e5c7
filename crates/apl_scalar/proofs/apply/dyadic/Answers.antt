use Rattle.std.proofs.Common.{ap, sym, ◌∙◌, Ok, FitsSigned, rules}
use Rattle.std.specs.Int.{w64}
use Rattle.std.proofs.lemmas.Int.{to_z-of_z}
use Rattle.std.proofs.lemmas.Result.{err_from_is_err_and}
use Rattle.apl_scalar.proofs.Scalars.{two_numbers}
use Rattle.apl_scalar.proofs.apply.dyadic.Goals as goal

pub returns-in_err-dyadic_number-clause-value : goal.returns-in_err-dyadic_number-clause-value
returns-in_err-dyadic_number-clause-value c =
    let p = err_from_is_err_and c.from_residual.result c.from_residual.ensures.1 in
    let x : FitsSigned w64 c.in-Some.x = search rules in
    let y : FitsSigned w64 c.in-Some-as_number.y = search rules in
    rw (p.1, p.2)
    (two_numbers c.args.function c.args.a.now c.args.b.now c.in-Some.x c.in-Some-as_number.y _ (sym c.in-Some.ensures) (sym c.in-Some-as_number.ensures)
    (simp to_z-of_z at c.in_err-dyadic_number.ensures))

pub returns-clause-value : goal.returns-clause-value
returns-clause-value c =
    let x : FitsSigned w64 c.in-Some.x = search rules in
    let y : FitsSigned w64 c.in-Some-as_number.y = search rules in
    let z : FitsSigned w64 c.in_ok-dyadic_number.field-0 = search rules in
    two_numbers c.args.function c.args.a.now c.args.b.now c.in-Some.x c.in-Some-as_number.y _ (sym c.in-Some.ensures) (sym c.in-Some-as_number.ensures)
    (simp to_z-of_z at c.in_ok-dyadic_number.ensures)
    ∙ ap (λ r. Ok r) (sym (simp to_z-of_z at c.number.ensures))
