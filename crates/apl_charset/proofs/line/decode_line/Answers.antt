use Rattle.apl_charset.proofs.Unique.{only_memory, only_memory_outside}
use Rattle.apl_charset.proofs.Decodings.{found_decoded, faults_decoded, outsides_decoded}
use Rattle.apl_charset.proofs.line.decode_line.Goals as goal

pub returns-in-Ok-clause-decoded : goal.returns-in-Ok-clause-decoded
returns-in-Ok-clause-decoded c = found_decoded c.in-Ok.text.now c.args.line.now c.decode_text.result c.in-Ok.ensures.cases.0 c.decode_text.ensures.ok

pub returns-in-Ok-clause-undecoded : goal.returns-in-Ok-clause-undecoded
returns-in-Ok-clause-undecoded c = outsides_decoded c.in-Ok.text.now c.args.line.now c.decode_text.result c.in-Ok.ensures.cases.0 c.decode_text.ensures.fault

pub returns-in-Err-clause-undecoded : goal.returns-in-Err-clause-undecoded
returns-in-Err-clause-undecoded c = faults_decoded c.args.line.now c.decode_prefix.result c.decode_prefix.ensures.fault

pub returns-in-Ok-clause-complete : goal.returns-in-Ok-clause-complete
returns-in-Ok-clause-complete c = rw (← c.in-Ok.ensures.cases.0) (only_memory_outside c.in-Ok.text.now c.decode_text.result c.decode_text.ensures.fault)

pub returns-in-Err-clause-complete : goal.returns-in-Err-clause-complete
returns-in-Err-clause-complete c = only_memory c.args.line.now c.decode_prefix.result c.decode_prefix.ensures.fault
