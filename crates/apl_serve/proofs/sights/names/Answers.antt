use Rattle.apl_serve.proofs.Plain.{named_plain}
use Rattle.apl_serve.proofs.sights.names.Goals as goal

pub answer_list-requires : goal.answer_list-requires
answer_list-requires c = λ named. named_plain named.name named.reading
