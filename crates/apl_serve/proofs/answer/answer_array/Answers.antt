use Rattle.apl_serve.proofs.Plain.{array_plain}
use Rattle.apl_serve.proofs.answer.answer_array.Goals as goal

pub answer_of-requires : goal.answer_of-requires
answer_of-requires c = rw (c.in_ok-tree.ensures) (array_plain c.args.array.now)
