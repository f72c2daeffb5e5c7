use Rattle.std.proofs.Common.{rules, ◌≡◌, [], ◌∷◌, ℤ, Ok, Err, ap, sym, ◌∙◌, w64, to_z, of_z}
use Rattle.std.proofs.lemmas.Int.{to_z-of_z}
use mir.Val.{SFits}
use Rattle.apl_faults.specs.declared.fault.Fault.{Fault}
use Rattle.apl_arrays.specs.Cells.{Arr}
use Rattle.apl_scalar.specs.Extension.{numbers_in}
use Rattle.apl_arrays.specs.Results.{ok_map}
use Rattle.apl_folds.specs.Folds.{folds_shaped, reduced_along}
use Rattle.apl_folds.proofs.Vectors.{vector_shaped}
use Rattle.apl_folds.proofs.reduction.reduce_axis.Goals as goal

pub returns-in-Some-Ok : goal.returns-in-Some-Ok
returns-in-Some-Ok c =
    let a = c.args.view.now in
    let fits : SFits w64 c.in-Some-Ok.number = search rules in
    let others : reduced_along c.args.function c.args.axis a ≡ folds_shaped c.args.function c.args.axis a = search rules in
    others ∙ vector_shaped c.args.function a c.strided.result c.args.axis c.in-Some-Ok.field-0 c.strided.ensures c.requires c.in-Some-Ok.ensures.vector c.in-Some-Ok.ensures.value
    ∙ ap (ok_map (λ (z : ℤ). numbers_in [] (z ∷ []))) c.in-Some-Ok.field-0-is
    ∙ ap (λ (z : ℤ). Ok (numbers_in [] (z ∷ []))) (sym (to_z-of_z w64 c.in-Some-Ok.number fits) ∙ ap (λ (z : ℤ). to_z w64 (of_z w64 z)) (sym c.in-Some-Ok.number-is))
    ∙ ap (λ (r : Arr). Ok r) (sym c.number.ensures)

pub returns-in-Some-Err : goal.returns-in-Some-Err
returns-in-Some-Err c =
    let a = c.args.view.now in
    let others : reduced_along c.args.function c.args.axis a ≡ folds_shaped c.args.function c.args.axis a = search rules in
    others ∙ vector_shaped c.args.function a c.strided.result c.args.axis c.in-Some-Err.field-0 c.strided.ensures c.requires c.in-Some-Err.ensures.vector c.in-Some-Err.ensures.value
    ∙ ap (ok_map (λ (z : ℤ). numbers_in [] (z ∷ []))) c.in-Some-Err.field-0-is
    ∙ ap (λ (e : Fault). Err e) (sym c.in-Some-Err.fault-is)
