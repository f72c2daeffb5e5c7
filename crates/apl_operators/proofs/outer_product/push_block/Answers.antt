use Rattle.std.proofs.Common.{◌≡◌, ℕ, ℤ, Result, Ok, ◌++◌, length, get_or, pos, ap, sym, ◌∙◌, refl, rules, arith}
use Rattle.std.specs.List.{range_with_len}
use Rattle.std.proofs.lemmas.Result.{err_from_is_err_and}
use Rattle.apl_faults.specs.declared.fault.Fault.{Fault}
use Rattle.apl_arrays.specs.Results.{all_ok, ok_map}
use Rattle.apl_scalar.proofs.Rooms.{room_size, written_over}
use Rattle.apl_operators.proofs.SmallProducts.{room_within}
use Rattle.apl_operators.proofs.outer_product.push_block.Goals as goal

pub split_at_mut-values-requires : goal.split_at_mut-values-requires
split_at_mut-values-requires g c =
    room_within c.args.out.now.items c.grow.new.out.items c.as_mut_slice.result.now (pos 0) (length c.args.ys.now) c.in_ok-before.before c.in_ok-before.ensures.grown c.in_ok-before.ensures.place c.as_mut_slice.ensures.value

pub meet-requires-clause-y : goal.meet-requires-clause-y
meet-requires-clause-y g c = λ k h.
    let room : length c.split_at_mut-values.result.1.now ≡ length c.args.ys.now =
    room_size c.args.out.now.items c.grow.new.out.items c.as_mut_slice.result.now c.split_at_mut-values.result.1.now c.split_at_mut-values.result.1.now (pos 0) (length c.args.ys.now) c.in_ok-before.before
    c.in_ok-before.ensures.grown c.in_ok-before.ensures.place c.as_mut_slice.ensures.value c.split_at_mut-values.ensures.back_len refl
    in
    omega arith

pub returns : goal.returns
returns g c =
    let at : ℕ → Result ℤ Fault = λ k. g.F.Attempt.meaning c.args.x.now.0 (get_or c.args.ys.now k (pos 0)) in
    let room : length c.split_at_mut-values.result.1.now ≡ length c.args.ys.now =
    room_size c.args.out.now.items c.grow.new.out.items c.as_mut_slice.result.now c.split_at_mut-values.result.1.now c.split_at_mut-values.result.1.now (pos 0) (length c.args.ys.now) c.in_ok-before.before
    c.in_ok-before.ensures.grown c.in_ok-before.ensures.place c.as_mut_slice.ensures.value c.split_at_mut-values.ensures.back_len refl
    in
    ap (λ r. ok_map (λ ys. c.args.out.now.items ++ ys) r) (ap (λ (n : ℕ). all_ok at (range_with_len 0 n)) (sym room) ∙ c.in_ok-meet.ensures)
    ∙ ap (λ l. Ok l)
    (sym (written_over c.args.out.now.items c.grow.new.out.items c.as_mut_slice.result.now c.split_at_mut-values.result.0.now c.split_at_mut-values.result.1.now c.meet.new.out (pos 0) (length c.args.ys.now)
    c.in_ok-before.before c.grow.new.out.len c.in_ok-before.ensures.grown c.in_ok-before.ensures.place c.as_mut_slice.ensures.value c.split_at_mut-values.ensures.front c.split_at_mut-values.ensures.back_len (search rules)
    (search rules)))

pub returns-in_err-meet : goal.returns-in_err-meet
returns-in_err-meet g c =
    let p = err_from_is_err_and c.from_residual-in_err-meet.result c.from_residual-in_err-meet.ensures.1 in
    let at : ℕ → Result ℤ Fault = λ k. g.F.Attempt.meaning c.args.x.now.0 (get_or c.args.ys.now k (pos 0)) in
    let room : length c.split_at_mut-values.result.1.now ≡ length c.args.ys.now =
    room_size c.args.out.now.items c.grow.new.out.items c.as_mut_slice.result.now c.split_at_mut-values.result.1.now c.split_at_mut-values.result.1.now (pos 0) (length c.args.ys.now) c.in_ok-before.before
    c.in_ok-before.ensures.grown c.in_ok-before.ensures.place c.as_mut_slice.ensures.value c.split_at_mut-values.ensures.back_len refl
    in
    rw (p.1, p.2) (ap (λ (n : ℕ). all_ok at (range_with_len 0 n)) (sym room) ∙ c.in_err-meet.ensures)
