use Rattle.std.proofs.Common.{sym, ◌∙◌}
use Rattle.apl_machine.proofs.Callers.{hole_found, hole_ready}
use Rattle.apl_machine.proofs.standing.hole_in.Goals as goal

pub returns-in-Pendent : goal.returns-in-Pendent
returns-in-Pendent c = hole_found c.args.line.now c.awaited_at.result c.awaited_at.ensures.column.0 c.awaited_at.ensures.value

pub returns-in-Ready : goal.returns-in-Ready
returns-in-Ready c = hole_ready c.args.line.now (sym c.stage.ensures ∙ c.in-Ready.is)
