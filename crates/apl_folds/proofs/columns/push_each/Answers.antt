use Rattle.std.proofs.Common.{pos, sym, ◌∙◌, rules, arith, w64}
use Rattle.std.proofs.lemmas.Int.{to_z-of_z}
use mir.Val.{SFits}
use Rattle.apl_arrays.proofs.InTurn.{turns_step, turns_fault, after_err}
use Rattle.apl_folds.specs.Lines.{fold_by, line_of}
use Rattle.apl_folds.proofs.columns.push_each.Goals as goal

pub loop-at-preserved : goal.loop-at-preserved
loop-at-preserved g c =
    let fits : SFits w64 c.in-Ok.value = search rules in
    turns_step (λ p. fold_by g.F.Scalar.meaning (line_of (pos 0) (g.L.Lane.numbers c.args.numbers.now) c.args.axis.now p c.args.count)) c.loop-at.out.items _ c.in-Ok.value c.loop-at.at c.args.till c.loop-at-test.true
    (sym c.fold_strided.ensures ∙ c.in-Ok.is)
    (simp to_z-of_z at c.in_ok-push-in-Ok.ensures.items)
    ∙ c.loop-at.invariant

pub returns-in-Err : goal.returns-in-Err
returns-in-Err g c =
    after_err _ _ c.in-Err.fault
    (sym c.loop-at.invariant
    ∙ turns_fault (λ p. fold_by g.F.Scalar.meaning (line_of (pos 0) (g.L.Lane.numbers c.args.numbers.now) c.args.axis.now p c.args.count)) c.loop-at.out.items c.in-Err.fault c.loop-at.at c.args.till c.loop-at-test.true (sym c.fold_strided.ensures ∙ c.in-Err.is))

pub fold_strided-requires : goal.fold_strided-requires
fold_strided-requires g c = c.requires c.loop-at.at (omega arith) c.loop-at-test.true
