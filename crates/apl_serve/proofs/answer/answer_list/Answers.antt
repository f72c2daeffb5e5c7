use Rattle.apl_serve.proofs.Plain.{list_plain}
use Rattle.apl_serve.proofs.answer.answer_list.Goals as goal

pub answer_of-requires : goal.answer_of-requires
answer_of-requires g c = rw (c.in_ok-tree.ensures) (list_plain g.T.Shown.tree c.requires c.args.items.now)
