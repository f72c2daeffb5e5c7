use Rattle.std.proofs.Common.{w32}
use Rattle.apl_scalar.proofs.Widths.{neither, one_negative, both_truths}
use Rattle.apl_scalar.proofs.computed.I32Computed.either.Goals as goal

pub returns-clause-neither : goal.returns-clause-neither
returns-clause-neither c h = neither w32 c.args.x c.args.y c.ranges.x c.ranges.y h

pub returns-clause-one : goal.returns-clause-one
returns-clause-one c h = one_negative w32 c.args.x c.args.y c.ranges.x c.ranges.y h

pub returns-clause-truths : goal.returns-clause-truths
returns-clause-truths c h = both_truths w32 c.args.x c.args.y c.ranges.x c.ranges.y h
