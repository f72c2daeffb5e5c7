use Rattle.std.proofs.Common.{ℕ, ℤ, Result, ◌+◌, ◌-◌, pos, sym, ◌∙◌, arith}
use Rattle.std.specs.List.{range_with_len}
use Rattle.apl_faults.specs.declared.fault.Fault.{Fault}
use Rattle.apl_arrays.specs.Results.{all_ok}
use Rattle.std.proofs.lemmas.Result.{err_from_is_err_and}
use Rattle.apl_arrays.proofs.Exits.{appends_err}
use Rattle.apl_arrays.proofs.InTurn.{turns_part, turns_part_fault, turns_end, after_err}
use Rattle.apl_folds.specs.Lines.{fold_by, line_of}
use Rattle.apl_folds.proofs.columns.push_columns.Goals as goal

pub loop-from-preserved : goal.loop-from-preserved
loop-from-preserved g c = record {
  after_first = omega arith;
  within = omega arith;
  so_far =
      turns_part (λ p. fold_by g.F.Scalar.meaning (line_of (pos 0) (g.L.Lane.numbers c.args.numbers.now) c.args.axis.now p c.args.count)) c.loop-from.out.items _ c.loop-from.from (c.loop-from.from + c.min.result) c.args.till (omega arith) (omega arith)
      c.in_ok-push_block.ensures
      ∙ c.loop-from.invariant.so_far;
}

pub returns-in_err-push_block : goal.returns-in_err-push_block
returns-in_err-push_block g c =
    let p = err_from_is_err_and c.from_residual.result c.from_residual.ensures.1 in
    let fold : ℕ → Result ℤ Fault = λ p. fold_by g.F.Scalar.meaning (line_of (pos 0) (g.L.Lane.numbers c.args.numbers.now) c.args.axis.now p c.args.count) in
    rw (p.1, p.2)
    (appends_err c.loop-from.out.items c.push_block.new.out.items c.args.out.now.items c.push_block.new.out.items
    (all_ok fold (range_with_len c.loop-from.from ((c.loop-from.from + c.min.result) - c.loop-from.from))) _ c.in_err-push_block.field-0.0
    (λ e h. after_err _ _ e (sym c.loop-from.invariant.so_far
    ∙ turns_part_fault fold c.loop-from.out.items e c.loop-from.from (c.loop-from.from + c.min.result) c.args.till (omega arith) (omega arith) h))
    c.in_err-push_block.ensures)

pub returns : goal.returns
returns g c =
    sym c.loop-from.invariant.so_far ∙ turns_end (λ p. fold_by g.F.Scalar.meaning (line_of (pos 0) (g.L.Lane.numbers c.args.numbers.now) c.args.axis.now p c.args.count)) c.loop-from.out.items c.loop-from.from c.args.till (omega arith)

pub push_block-requires-clause-lines : goal.push_block-requires-clause-lines
push_block-requires-clause-lines g c = λ p above below. c.requires.lines p (omega (arith, above)) (omega (arith, below))

pub push_block-requires-clause-room : goal.push_block-requires-clause-room
push_block-requires-clause-room g c = λ p above below. c.requires.room p (omega (arith, above)) (omega (arith, below))
