use Rattle.apl_operands.proofs.Fetching.{ends_in_some}
use Rattle.apl_operands.proofs.operands.last_source.Goals as goal

pub unreachable-requires-in_default-last : goal.unreachable-requires-in_default-last
unreachable-requires-in_default-last c =
    ends_in_some c.args.operands.constants.now c.args.sources.now c.in-Some.others.now c.in-Some.last.now _ c.in-Some.ensures.cases.0 c.in_default-last.is c.requires
