use Rattle.std.proofs.Common.{◌≡◌, ℤ, [], ◌∷◌, ap, sym, ◌∙◌, arith}
use Rattle.std.specs.Prelude.{FitsSigned}
use Rattle.std.specs.Int.{w64}
use Rattle.std.proofs.lemmas.Int.{to_z-of_z}
use Rattle.apl_arrays.specs.Cells.{Numbers}
use Rattle.apl_arrays.specs.Simple.{lone_number}
use Rattle.apl_select.proofs.SinglePlace.{assigned_if, first_fits, lone}
use Rattle.apl_select.proofs.assignment.number_assigned.Goals as goal

pub returns-in-Some-lone_number-clause-value : goal.returns-in-Some-lone_number-clause-value
returns-in-Some-lone_number-clause-value c =
    let number : ℤ = c.in-Some-lone_number.number in
    let only : c.args.value.now.items ≡ Numbers (number ∷ []) = lone c.args.value.now.items number (ap lone_number (sym c.items.ensures.value) ∙ sym c.lone_number.ensures ∙ c.in-Some-lone_number.is) in
    let fits : FitsSigned w64 c.in-Some-lone_number.number = first_fits c.args.value.now.items (number ∷ []) (sym only) c.items.ensures.array.storable (omega arith) in
    assigned_if c.args.array.now c.args.value.now c.set_number.new.self c.args.origin c.args.slots.now c.in-Some.place number c.set_number.result
    c.in-Some.ensures.array.full c.in-Some.ensures.place only
    (simp (to_z-of_z, fits) at c.set_number.ensures.value) c.set_number.ensures.there
