use Rattle.apl_tokens.proofs.Progress.{balanced, left_open}
use Rattle.apl_tokens.proofs.line.read.Goals as goal

pub returns-in-Some-clause-fault : goal.returns-in-Some-clause-fault
returns-in-Some-clause-fault c = left_open c.args.text.now c.in_ok-tokens.tokens.items c.in_ok-column.field-0 c.in-Some.column c.if-text-gt500.false c.in_ok-tokens.ensures.found (rw c.as_slice.ensures.value at c.in_ok-column.ensures) c.in-Some.is

pub returns-in-None-clause-found : goal.returns-in-None-clause-found
returns-in-None-clause-found c = balanced c.args.text.now c.in_ok-tokens.tokens.items c.in_ok-column.field-0 c.if-text-gt500.false c.in_ok-tokens.ensures.found (rw c.as_slice.ensures.value at c.in_ok-column.ensures) c.in-None.is
