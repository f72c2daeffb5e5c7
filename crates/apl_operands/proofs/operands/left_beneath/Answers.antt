use Rattle.apl_operands.proofs.Fetching.{unfetched_top}
use Rattle.apl_operands.proofs.operands.left_beneath.Goals as goal

pub returns-in-Stack-clause-left : goal.returns-in-Stack-clause-left
returns-in-Stack-clause-left c = unfetched_top c.args.stack.now c.args.left c.saturating_sub.result c.args.source c.in-Some.source c.requires c.in-Some.is c.in-Stack.is c.saturating_sub.ensures
