use Rattle.apl_reshape.proofs.Limits.{bound-take}
use Rattle.apl_reshape.proofs.joining.rows_before.Goals as goal

pub size-requires : goal.size-requires
size-requires c = rw (c.split_at.ensures.front) (bound-take c.args.s.now c.args.axis 1000000 c.requires.small)
