use Rattle.std.proofs.Common.{ℕ, ℤ, Vec, Global, Result, ◌*◌, length, get_or, pos, ap, sym, ◌∙◌, arith}
use Rattle.std.specs.List.{range_with_len}
use Rattle.std.proofs.lemmas.Result.{err_from_is_err_and}
use Rattle.apl_faults.specs.declared.fault.Fault.{Fault}
use Rattle.apl_arrays.specs.Results.{all_ok}
use Rattle.apl_arrays.proofs.Exits.{answers_appended}
use Rattle.apl_operators.specs.Places.{crossed}
use Rattle.apl_operators.proofs.InRows.{rows_start, rows_step, rows_fault, rows_end, crossed_row}
use Rattle.apl_operators.proofs.outer_product.cross.Goals as goal

pub loop-i-init : goal.loop-i-init
loop-i-init g c = rows_start (crossed g.F.Attempt.meaning c.args.xs.now c.args.ys.now) c.in_ok-out.out.items (length c.args.ys.now) (length c.args.xs.now * length c.args.ys.now) c.in_ok-out.ensures.items

pub loop-i-preserved : goal.loop-i-preserved
loop-i-preserved g c =
    rows_step (crossed g.F.Attempt.meaning c.args.xs.now c.args.ys.now) (λ k. g.F.Attempt.meaning c.new.result.0 (get_or c.args.ys.now k (pos 0))) c.loop-i.out.items _ c.loop-i.i (length c.args.xs.now) (length c.args.ys.now) (omega arith)
    (λ q h. crossed_row g.F.Attempt.meaning c.args.xs.now c.args.ys.now c.loop-i.i q h ∙ ap (λ (x : ℤ). g.F.Attempt.meaning x (get_or c.args.ys.now q (pos 0))) (sym c.new.ensures)) c.in_ok-push_row.ensures
    ∙ c.loop-i.invariant

pub returns-in_err-push_row : goal.returns-in_err-push_row
returns-in_err-push_row g c =
    let p = err_from_is_err_and c.from_residual-in_err-push_row.result c.from_residual-in_err-push_row.ensures.1 in
    let row : ℕ → Result ℤ Fault = λ k. g.F.Attempt.meaning c.new.result.0 (get_or c.args.ys.now k (pos 0)) in
    rw (p.1, p.2)
    (answers_appended {A = ℤ} {D = Vec ℤ Global} (λ (v : Vec ℤ Global). v.items) c.loop-i.out.items c.push_row.new.out.items
    (all_ok row (range_with_len 0 (length c.args.ys.now))) (all_ok (crossed g.F.Attempt.meaning c.args.xs.now c.args.ys.now) (range_with_len 0 (length c.args.xs.now * length c.args.ys.now))) c.in_err-push_row.field-0.0
    (λ e h. sym c.loop-i.invariant
    ∙ rows_fault (crossed g.F.Attempt.meaning c.args.xs.now c.args.ys.now) row c.loop-i.out.items e c.loop-i.i (length c.args.xs.now) (length c.args.ys.now) (omega arith)
    (λ q l. crossed_row g.F.Attempt.meaning c.args.xs.now c.args.ys.now c.loop-i.i q l ∙ ap (λ (x : ℤ). g.F.Attempt.meaning x (get_or c.args.ys.now q (pos 0))) (sym c.new.ensures)) h)
    c.in_err-push_row.ensures)

pub returns : goal.returns
returns g c = sym c.loop-i.invariant ∙ rows_end (crossed g.F.Attempt.meaning c.args.xs.now c.args.ys.now) c.loop-i.out.items c.loop-i.i (length c.args.xs.now) (length c.args.ys.now) (omega arith)
