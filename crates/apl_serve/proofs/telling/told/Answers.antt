use Rattle.apl_serve.proofs.Plain.{told_plain}
use Rattle.apl_serve.proofs.telling.told.Goals as goal

pub line_of-requires : goal.line_of-requires
line_of-requires c = rw (c.in_ok-tree.ensures) (told_plain c.args.steps c.args.kept.now)
