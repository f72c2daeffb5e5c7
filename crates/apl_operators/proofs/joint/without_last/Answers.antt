use Rattle.std.proofs.Common.{length, ◌-◌, arith}
use Rattle.apl_operators.proofs.Others.{take_without}
use Rattle.apl_operators.proofs.joint.without_last.Goals as goal

pub returns-in-len1-up-clause-others : goal.returns-in-len1-up-clause-others
returns-in-len1-up-clause-others c = take_without (length c.args.shape.now - 1) c.args.shape.now (omega arith)
