use Rattle.std.proofs.Common.{◌+◌}
use Rattle.apl_arrays.proofs.Whole.{bound-drop}
use Rattle.apl_arrays.proofs.axis.axes_of.Goals as goal

pub size-requires : goal.size-requires
size-requires c = rw (c.split_at.ensures.back) (bound-drop c.args.shape.now (c.loop-k.k + 1) _ c.requires.small)
