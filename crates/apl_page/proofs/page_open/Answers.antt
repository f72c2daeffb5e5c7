use Rattle.apl_page.proofs.Opening.{opens, refuses}
use Rattle.apl_page.proofs.page_open.Goals as goal

pub returns-in-Ok : goal.returns-in-Ok
returns-in-Ok c = opens c.args.workspace.now c.in-Ok.page c.args.place.now c.in-Ok.ensures.opened c.in-Ok.ensures.quiet c.in-Ok.ensures.complete

pub returns-in-Err : goal.returns-in-Err
returns-in-Err c =
    refuses c.args.workspace.now c.in-Err.error c.from.result c.args.place.now c.in-Err.ensures.refused c.in-Err.ensures.complete
    (let number = c.from.ensures in let refusal = c.number.ensures in cc)
