use Rattle.std.proofs.Common.{ℤ, List, ◌+◌, length, get_or, pos, sym, ap, ◌∙◌, arith}
use Rattle.std.specs.List.{range_with_len, slice_range}
use Rattle.std.proofs.lemmas.Result.{err_from_is_err_and}
use Rattle.apl_arrays.specs.Results.{all_ok}
use Rattle.apl_arrays.proofs.Exits.{appends_err}
use Rattle.apl_arrays.proofs.InTurn.{after, turns_part, turns_part_fault, after_err}
use Rattle.apl_operators.proofs.InRows.{block_same}
use Rattle.apl_operators.proofs.outer_product.push_row.Goals as goal

pub loop-from-preserved : goal.loop-from-preserved
loop-from-preserved g c = record {
  within = omega arith;
  so_far =
      turns_part (λ k. g.F.Attempt.meaning c.args.x.now.0 (get_or c.args.ys.now k (pos 0))) c.loop-from.out.items _ c.loop-from.from (c.loop-from.from + c.min.result) (length c.args.ys.now) (omega arith) (omega arith)
      (ap (after c.loop-from.out.items) (block_same (g.F.Attempt.meaning c.args.x.now.0) c.args.ys.now c.loop-from.from (c.loop-from.from + c.min.result) (omega arith) (omega arith)) ∙ c.in_ok-push_block.ensures)
      ∙ c.loop-from.invariant.so_far;
}

pub returns-in_err-push_block : goal.returns-in_err-push_block
returns-in_err-push_block g c =
    let p = err_from_is_err_and c.from_residual.result c.from_residual.ensures.1 in
    let part : List ℤ = slice_range c.args.ys.now c.loop-from.from (c.loop-from.from + c.min.result) in
    rw (p.1, p.2)
    (appends_err c.loop-from.out.items c.push_block.new.out.items c.args.out.now.items c.push_block.new.out.items
    (all_ok (λ k. g.F.Attempt.meaning c.args.x.now.0 (get_or part k (pos 0))) (range_with_len 0 (length part))) _ c.in_err-push_block.field-0.0
    (λ e h. after_err _ _ e (sym c.loop-from.invariant.so_far
    ∙ turns_part_fault (λ k. g.F.Attempt.meaning c.args.x.now.0 (get_or c.args.ys.now k (pos 0))) c.loop-from.out.items e c.loop-from.from (c.loop-from.from + c.min.result) (length c.args.ys.now) (omega arith) (omega arith)
    (block_same (g.F.Attempt.meaning c.args.x.now.0) c.args.ys.now c.loop-from.from (c.loop-from.from + c.min.result) (omega arith) (omega arith) ∙ h)))
    c.in_err-push_block.ensures)
