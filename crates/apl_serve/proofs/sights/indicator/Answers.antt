use Rattle.apl_serve.proofs.Plain.{call_plain}
use Rattle.apl_serve.proofs.sights.indicator.Goals as goal

pub answer_list-requires : goal.answer_list-requires
answer_list-requires c = λ call. call_plain call
