use Rattle.std.proofs.Common.{ap, Some}
use Rattle.apl_code.specs.declared.instr.Source.{Source}
use Rattle.apl_operands.proofs.Fetching.{last_stays, never_stays}
use Rattle.apl_operands.proofs.operands.left_with_last.Goals as goal

pub returns-in-Stack-clause-value : goal.returns-in-Stack-clause-value
returns-in-Stack-clause-value c = λ b h.
    last_stays c.args.operands.constants.now c.args.sources.now c.last_source-last.result.1.now (Some c.last_source-last.result.0) c.args.operands.stack.now c.left.result b
    c.last_source-last.ensures (ap (λ (s : Source). Some s) c.in-Stack.is) c.left.ensures.left h

pub returns-in-Constant-clause-none : goal.returns-in-Constant-clause-none
returns-in-Constant-clause-none c = λ others is. never_stays c.args.sources.now c.last_source-last.result.1.now others c.last_source-last.result.0 c.in-Constant.field-0 c.last_source-last.ensures c.in-Constant.is is
