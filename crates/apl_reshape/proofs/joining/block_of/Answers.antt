use Rattle.apl_arrays.proofs.Whole.{bound-drop}
use Rattle.apl_reshape.proofs.joining.block_of.Goals as goal

pub size-requires : goal.size-requires
size-requires c = rw (c.split_at.ensures.back) (bound-drop c.args.s.now c.args.axis 1000000 c.requires.small)
