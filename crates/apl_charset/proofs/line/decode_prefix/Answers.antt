use Rattle.apl_charset.proofs.Unique.{front_fault, ends_badly}
use Rattle.apl_charset.proofs.line.decode_prefix.Goals as goal

pub returns-in-Err-decode_text-clause-fault : goal.returns-in-Err-decode_text-clause-fault
returns-in-Err-decode_text-clause-fault c = front_fault c.args.line.now c.args.at c.in-Err-decode_text.fault (rw c.in-Ok.ensures.cases.0 at c.in-Err-decode_text.ensures.fault)

pub returns-in-Ok-decode_text-clause-fault : goal.returns-in-Ok-decode_text-clause-fault
returns-in-Ok-decode_text-clause-fault c = ends_badly c.args.line.now c.in-Ok-decode_text.field-0.items c.args.at c.requires (rw c.in-Ok.ensures.cases.0 at c.in-Ok-decode_text.ensures.ok)
