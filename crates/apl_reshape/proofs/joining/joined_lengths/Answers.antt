use Rattle.std.proofs.Common.{get_or, ◌∙◌, arith}
use Rattle.apl_reshape.proofs.Joins.{sum_on_axis}
use Rattle.apl_reshape.proofs.Limits.{length_low}
use Rattle.apl_reshape.proofs.joining.joined_lengths.Goals as goal

pub overflow_add-s : goal.overflow_add-s
overflow_add-s c = omega (arith, length_low c.args.s.now c.args.axis c.requires.s, length_low c.args.t.now c.args.axis c.requires.t, c.requires.s_small, c.requires.t_small)

pub returns : goal.returns
returns c = c.replaced.ensures ∙ sum_on_axis c.args.s.now c.args.axis (get_or c.args.t.now c.args.axis 0)
