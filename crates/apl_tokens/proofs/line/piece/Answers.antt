use Rattle.std.proofs.Common.{◌∙◌, sym, arith}
use Rattle.std.proofs.lemmas.Bool.{eqb-true, eqb-false}
use Rattle.apl_tokens.proofs.Steps.{front_len, step_at, break_at, blank_at}
use Rattle.apl_tokens.proofs.Sound.{next_front}
use Rattle.apl_tokens.proofs.line.piece.Goals as goal

pub returns-then-is_empty-clause-found : goal.returns-then-is_empty-clause-found
returns-then-is_empty-clause-found c = blank_at c.args.text.now c.split_at.result.1.now c.len.result c.len.ensures.is c.split_at.ensures.back (eqb-true _ 0 (sym c.is_empty.ensures ∙ c.if-is_empty.true))

pub returns-in-Err-clause-fault : goal.returns-in-Err-clause-fault
returns-in-Err-clause-fault c = break_at c.args.end c.args.place c.args.text.now c.split_at.result.1.now c.in-Err.halt c.error_at.result c.len.result c.requires.0 c.len.ensures.is c.split_at.ensures.back (eqb-false _ 0 (sym c.is_empty.ensures ∙ c.if-is_empty.false)) c.in-Err.ensures.is c.error_at.ensures

pub split_at-requires-in-Ok : goal.split_at-requires-in-Ok
split_at-requires-in-Ok c = (front_len c.args.place c.in-Ok.kind c.in-Ok.len c.split_at.result.1.now (next_front _ _ _ _ c.in-Ok.ensures.is)).0

pub returns-in-Ok-clause-found : goal.returns-in-Ok-clause-found
returns-in-Ok-clause-found c = step_at c.args.end c.args.place c.args.text.now c.split_at.result.1.now c.split_at-in-Ok.result.1.now c.in-Ok.kind c.in-Ok.len c.len.result c.requires.0 c.len.ensures.is c.split_at.ensures.back c.in-Ok.ensures.is c.split_at-in-Ok.ensures.back

pub returns-in-Ok-clause-shorter : goal.returns-in-Ok-clause-shorter
returns-in-Ok-clause-shorter c =
    let f = front_len c.args.place c.in-Ok.kind c.in-Ok.len c.split_at.result.1.now (next_front _ _ _ _ c.in-Ok.ensures.is) in
    omega (arith, f, c.split_at-in-Ok.ensures.back_len, c.split_at.ensures.back_len)
