use Rattle.std.proofs.Common.{◌≤◌, ◌<◌, ◌++◌, ◌∷◌, [], length, arith, ap, ◌∙◌}
use Rattle.std.proofs.lemmas.List.Elements.{recursion_from_All}
use Rattle.apl_arrays.specs.inside.Joins.{joined_axis, joined_skip}
use Rattle.apl_arrays.specs.Views.{rank_of}
use Rattle.apl_arrays.proofs.Gathers.{line_step}
use Rattle.apl_arrays.proofs.Joining.{rank_within, sum_step, skip_turned}
use Rattle.apl_arrays.proofs.join.turn.Goals as goal

pub result_rank-number-end-requires : goal.result_rank-number-end-requires
result_rank-number-end-requires c = omega (arith, rank_within (length c.args.axes.now) c.args.numbers.now (recursion_from_All (λ m. m < length c.args.axes.now) c.args.numbers.now c.requires.within))

pub push-requires : goal.push-requires
push-requires c =
    let h : rank_of c.args.numbers.now ≤ length c.args.axes.now = rank_within (length c.args.axes.now) c.args.numbers.now (recursion_from_All (λ m. m < length c.args.axes.now) c.args.numbers.now c.requires.within) in
    (omega arith, omega (arith, c.result_rank-number-end.ensures, c.loop-number.invariant.count))

pub overflow_add-skipped : goal.overflow_add-skipped
overflow_add-skipped c =
    let below : c.loop-number.number < rank_of c.args.numbers.now = omega (arith, c.result_rank-number-end.ensures) in
    omega (arith, c.join-skip.ensures.skip, c.loop-number.invariant.skip, sum_step (joined_skip c.args.numbers.now c.args.axes.now) c.loop-number.number (rank_of c.args.numbers.now) below, skip_turned c.args.numbers.now c.args.axes.now 0)

pub loop-number-preserved : goal.loop-number-preserved
loop-number-preserved c =
    let below : c.loop-number.number < rank_of c.args.numbers.now = omega (arith, c.result_rank-number-end.ensures) in
    record {
      axes = line_step (joined_axis c.args.numbers.now c.args.axes.now) c.loop-number.turned.items c.push.new.self.items c.loop-number.number (rank_of c.args.numbers.now) below
          (c.push.ensures.items ∙ ap (λ x. c.loop-number.turned.items ++ x ∷ []) c.join-skip.ensures.axis)
          ∙ c.loop-number.invariant.axes;
      count = omega (arith, c.push.ensures.len, c.loop-number.invariant.count);
      skip = omega (arith, c.join-skip.ensures.skip, c.loop-number.invariant.skip, sum_step (joined_skip c.args.numbers.now c.args.axes.now) c.loop-number.number (rank_of c.args.numbers.now) below);
    }
