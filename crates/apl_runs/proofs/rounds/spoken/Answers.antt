use Rattle.std.proofs.Common.{arith, sym}
use Rattle.apl_runs.proofs.Spoken.{if_none, spoken-beyond, spoken-some, spoken-unnumbered}
use Rattle.apl_runs.proofs.rounds.spoken.Goals as goal

pub returns-in_err-number-clause-said : goal.returns-in_err-number-clause-said
returns-in_err-number-clause-said c =
    if_none _ _ c.from_residual-in_err-number.result c.from_residual-in_err-number.ensures
    (spoken-unnumbered c.args.count c.in_ok-blank_at.field-0 c.args.line.now c.split_at.result.0.now (omega arith) (sym c.in_ok-blank_at.ensures.place) c.split_at.ensures.front c.in_err-number.ensures)

pub returns-then-number-count-clause-said : goal.returns-then-number-count-clause-said
returns-then-number-count-clause-said c =
    spoken-some c.args.count c.in_ok-number.number c.in_ok-blank_at.field-0 c.args.line.now c.split_at.result.0.now c.split_at.result.1.now c.split_at-2.result.1.now
    (omega arith) (omega arith) (sym c.in_ok-blank_at.ensures.place) c.split_at.ensures.front c.split_at.ensures.back c.split_at-2.ensures.back c.in_ok-number.ensures.1

pub returns-else-number-count-clause-said : goal.returns-else-number-count-clause-said
returns-else-number-count-clause-said c =
    spoken-beyond c.args.count c.in_ok-blank_at.field-0 c.in_ok-number.number c.args.line.now c.split_at.result.0.now
    (omega arith) c.in_ok-number.ensures.0 (sym c.in_ok-blank_at.ensures.place) c.split_at.ensures.front c.in_ok-number.ensures.1 (omega arith)
