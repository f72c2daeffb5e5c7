use Rattle.std.proofs.Common.{◌≡◌, ◌+◌, ◌-◌, ◌*ℤ◌, ℕ, ℤ, List, Result, FitsSigned, length, get_or, pos, ap, sym, ◌∙◌, subst, arith}
use Rattle.std.specs.List.{range_with_len, slice_range}
use Rattle.std.proofs.lemmas.Int.{to_z-of_z}
use Rattle.apl_faults.specs.declared.fault.Fault.{Fault}
use Rattle.apl_arrays.specs.Results.{all_ok}
use Rattle.apl_arrays.proofs.InTurn.{after, turns_part, turns_end}
use Rattle.apl_scalar.specs.declared.function.Dyadic.TheVariants as two
use Rattle.apl_scalar.specs.Functions.{dyadic_of}
use Rattle.apl_scalar.proofs.OfLanes.{as_many}
use Rattle.apl_operators.specs.Places.{row_of}
use Rattle.apl_operators.specs.inside.SmallProducts.{AddsProducts}
use Rattle.apl_operators.proofs.InRows.{block_same}
use Rattle.apl_operators.proofs.Tables.{numbers_part, part_at, part_whole}
use Rattle.apl_operators.proofs.products.push_products.Goals as goal

pub push_piece-requires : goal.push_piece-requires
push_piece-requires g c = simp (to_z-of_z, c.ranges.x) (λ k h.
    let value = g.L.Lane.value in
    let numbers = g.L.Lane.numbers in
    let ys = c.args.ys.now in
    let from = c.loop-from.from in
    let till = from + c.min.result in
    let size : length (slice_range ys from till) ≡ c.min.result = part_whole ys from c.min.result (omega arith) in
    let part : get_or (numbers (slice_range ys from till)) k (pos 0) ≡ get_or (numbers ys) (from + k) (pos 0) =
    ap (λ (zs : List ℤ). get_or zs k (pos 0)) (numbers_part value numbers g.met.L.Lane.each ys from till) ∙ part_at (numbers ys) from till k (omega arith)
    in
    subst (λ (z : ℤ). FitsSigned g.M.Lane.width (c.args.x *ℤ z)) (sym part) (c.requires.fits (from + k) (omega arith)))

pub loop-from-preserved : goal.loop-from-preserved
loop-from-preserved g c =
    let numbers = g.M.Lane.numbers in
    let ys = g.L.Lane.numbers c.args.ys.now in
    let from = c.loop-from.from in
    let till = from + c.min.result in
    let at : ℕ → Result ℤ Fault = λ k. dyadic_of two.Times c.args.x (get_or (g.L.Lane.numbers c.args.ys.now) k (pos 0)) in
    let many : length ys ≡ length c.args.ys.now = as_many g.L.Lane.value g.L.Lane.numbers g.met.L.Lane.each c.args.ys.now in
    let before : after (numbers c.loop-from.out.items) (all_ok at (range_with_len from (length ys - from))) ≡ after (numbers c.args.out.now.items) (all_ok at (range_with_len 0 (length ys))) =
    simp (to_z-of_z, c.ranges.x) at c.loop-from.invariant.so_far
    in
    let added : AddsProducts c.args.x (g.L.Lane.numbers (slice_range c.args.ys.now from till)) (numbers c.loop-from.out.items) (numbers c.push_piece.new.out.items) = simp (to_z-of_z, c.ranges.x) at c.in_ok-push_piece.ensures in
    record {
      within = omega arith;
      so_far =
          simp (to_z-of_z, c.ranges.x)
          (turns_part at (numbers c.loop-from.out.items) (numbers c.push_piece.new.out.items) from till (length ys) (omega arith) (omega arith)
          (ap (after (numbers c.loop-from.out.items))
          (block_same (dyadic_of two.Times c.args.x) ys from till (omega arith) (omega arith) ∙ ap (row_of (dyadic_of two.Times) c.args.x) (sym (numbers_part g.L.Lane.value g.L.Lane.numbers g.met.L.Lane.each c.args.ys.now from till)))
          ∙ added)
          ∙ before);
    }

pub returns : goal.returns
returns g c =
    let ys = g.L.Lane.numbers c.args.ys.now in
    let at : ℕ → Result ℤ Fault = λ k. dyadic_of two.Times c.args.x (get_or (g.L.Lane.numbers c.args.ys.now) k (pos 0)) in
    let many : length ys ≡ length c.args.ys.now = as_many g.L.Lane.value g.L.Lane.numbers g.met.L.Lane.each c.args.ys.now in
    let before : after (g.M.Lane.numbers c.loop-from.out.items) (all_ok at (range_with_len c.loop-from.from (length ys - c.loop-from.from))) ≡ after (g.M.Lane.numbers c.args.out.now.items) (all_ok at (range_with_len 0 (length ys))) =
    simp (to_z-of_z, c.ranges.x) at c.loop-from.invariant.so_far
    in
    sym before ∙ turns_end at (g.M.Lane.numbers c.loop-from.out.items) c.loop-from.from (length ys) (omega arith)
