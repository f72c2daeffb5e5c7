use Rattle.std.proofs.Common.{arith, ◌+◌, ◌*◌}
use Rattle.apl_arrays.proofs.Steps.{reach_step, reach_up}
use Rattle.apl_folds.proofs.walk.stepped.Goals as goal

pub returns-in-None-clause-near : goal.returns-in-None-clause-near
returns-in-None-clause-near c = λ xs. rw c.along.ensures (reach_step c.args.start.at c.args.axis.now xs c.args.index c.requires.within)

pub returns-in-Some-eq0-clause-near : goal.returns-in-Some-eq0-clause-near
returns-in-Some-eq0-clause-near c = λ xs. reach_up c.args.start.at (c.args.start.at + (c.args.axis.now.up + c.args.axis.now.down) * (c.args.axis.now.length + 1)) xs (omega arith)

pub returns-in-Some-clause-near : goal.returns-in-Some-clause-near
returns-in-Some-clause-near c = λ xs. rw c.along-in-Some.ensures (reach_step c.args.start.at c.args.axis.now xs c.args.index c.requires.within)
