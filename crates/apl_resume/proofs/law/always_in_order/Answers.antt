use Rattle.apl_resume.proofs.Standing.{always_in_order}
use Rattle.apl_resume.proofs.law.always_in_order.Goals as goal

pub returns : goal.returns
returns c = always_in_order c.steps_keep_order.ensures c.interrupts_keep_order.ensures c.statements_keep_order.ensures
