use Rattle.std.proofs.Common.{arith, sym, ◌∙◌}
use Rattle.apl_reshape.proofs.Enough.{enough_end, enough_step, not_enough_axes}
use Rattle.apl_reshape.proofs.lengths.has_enough.Goals as goal

pub loop-axis-preserved : goal.loop-axis-preserved
loop-axis-preserved c = enough_step c.args.shape.now c.args.lengths.now c.loop-axis.axis (omega arith) (omega arith) (omega arith) ∙ c.loop-axis.invariant

pub returns : goal.returns
returns c = sym (enough_end c.args.shape.now c.args.lengths.now c.loop-axis.axis (omega arith) (omega arith)) ∙ c.loop-axis.invariant

pub returns-then-shape-lengths : goal.returns-then-shape-lengths
returns-then-shape-lengths c = sym (not_enough_axes c.args.shape.now c.args.lengths.now c.if-shape-lengths.true)
