use Rattle.apl_savable.proofs.Reached.{reached-savable}
use Rattle.apl_workspace.proofs.Again.{is_loaded}
use Rattle.apl_workspace.proofs.saving.save.Goals as goal

pub returns-clause-again : goal.returns-clause-again
returns-clause-again c = is_loaded c.in_ok-write.field-0.items c.in_ok-file.file c.in_ok-parts.parts c.args.machine.now c.in_ok-write.ensures.json c.in_ok-file.ensures.holds c.in_ok-parts.ensures.parts c.in_ok-file.ensures.version (let a = c.is_idle.ensures in let b = c.if-not-is_idle.false in cc)

pub returns-clause-reached : goal.returns-clause-reached
returns-clause-reached c reached = returns-clause-again c (reached-savable c.args.machine.now reached)
