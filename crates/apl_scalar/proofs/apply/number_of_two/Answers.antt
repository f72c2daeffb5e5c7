use Rattle.std.proofs.Common.{◌≡◌, ap, sym, ◌∙◌, Ok, FitsSigned, of_z, rules, to_z}
use Rattle.std.specs.Int.{w64}
use Rattle.std.proofs.lemmas.Int.{to_z-of_z}
use Rattle.apl_arrays.specs.declared.cell.Cell.TheVariants.{Num}
use Rattle.apl_arrays.specs.Results.{ok_map}
use Rattle.apl_arrays.specs.Simple.{single}
use Rattle.apl_scalar.proofs.Scalars.{two_numbers}
use Rattle.apl_scalar.proofs.apply.number_of_two.Goals as goal

pub returns-in-Ok-clause-some : goal.returns-in-Ok-clause-some
returns-in-Ok-clause-some c =
    let x : FitsSigned w64 c.in_ok-x.x = search rules in
    let y : FitsSigned w64 c.in_ok-y.y = search rules in
    let z : FitsSigned w64 c.in-Ok.number = search rules in
    let same : to_z w64 (of_z w64 c.in-Ok.number) ≡ c.in-Ok.number = search rules in
    two_numbers c.args.function c.args.a.now c.args.b.now c.in_ok-x.x c.in_ok-y.y _ (sym c.in_ok-x.ensures) (sym c.in_ok-y.ensures) (simp to_z-of_z at c.dyadic_number.ensures)
    ∙ ap (ok_map (λ z. single (Num z))) c.in-Ok.is ∙ ap (λ z. Ok (single (Num z))) (sym same)
