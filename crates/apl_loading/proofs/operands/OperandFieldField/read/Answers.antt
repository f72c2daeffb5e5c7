use Rattle.std.proofs.Common.{sym, ap, ◌∙◌}
use Rattle.std.proofs.lemmas.Result.{err_from_is_err_and}
use Rattle.apl_workspace_file.specs.declared.fields.OperandField.TheVariants as fields
use Rattle.apl_loading.proofs.OneArray.{no_slots}
use Rattle.apl_loading.proofs.operands.OperandFieldField.read.Goals as goal

pub returns-in_err-slots-in-Slots-clause-refused :
    goal.returns-in_err-slots-in-Slots-clause-refused
returns-in_err-slots-in-Slots-clause-refused c =
    let p = err_from_is_err_and c.from_residual-in_err-slots-in-Slots.result c.from_residual-in_err-slots-in-Slots.ensures.1 in
    rw (p.1, p.2) (λ m. ((c.in_err-slots-in-Slots.ensures.refused m).0, no_slots c.args.self.now c.as_slice.result.now (c.in-Slots.is ∙ ap fields.Slots (sym c.as_slice.ensures)) (c.in_err-slots-in-Slots.ensures.refused m).1))
