use Rattle.std.proofs.Common.{◌+◌, arith}
use Rattle.apl_arrays.proofs.Whole.{bound-drop}
use Rattle.apl_turns.proofs.Parts.{bound-take}
use Rattle.apl_turns.proofs.lines.extent_along.Goals as goal

pub size-requires : goal.size-requires
size-requires c = rw (c.split_at.ensures.front) (omega (arith, bound-take c.args.shape.now c.args.axis))

pub size-requires-2 : goal.size-requires-2
size-requires-2 c = rw (c.split_at-2.ensures.back) (bound-drop c.args.shape.now (c.args.axis + 1) _ c.requires.small)
