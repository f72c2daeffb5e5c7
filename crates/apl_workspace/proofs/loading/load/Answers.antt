use Rattle.apl_savable.proofs.Idle.{whole_idle}
use Rattle.apl_workspace.proofs.Refused.{fault_refused}
use Rattle.apl_workspace.proofs.loading.load.Goals as goal

pub returns-in_err-parts-clause-refused : goal.returns-in_err-parts-clause-refused
returns-in_err-parts-clause-refused c = fault_refused c.args.bytes.now c.in_ok-file.file c.in_err-parts.field-0.0 c.from_residual-in_err-parts.result c.in_ok-file.ensures.file c.in_err-parts.ensures.refused c.from_residual-in_err-parts.ensures.1

pub returns-clause-idle : goal.returns-clause-idle
returns-clause-idle c = whole_idle c.in_ok-from_parts_with.field-0 c.in_ok-parts.parts c.in_ok-from_parts_with.ensures c.in_ok-parts.ensures.whole
