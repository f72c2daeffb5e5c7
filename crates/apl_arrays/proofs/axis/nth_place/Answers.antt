use Rattle.std.proofs.Common.{◌+◌, ◌*◌, ◌/◌, ◌%◌, ◌<◌, get_or, drop, arith, sym, ap, ◌∙◌}
use Rattle.apl_arrays.specs.Index.{size_of}
use Rattle.apl_arrays.specs.Nth.{index_at}
use Rattle.apl_arrays.specs.Strides.{lengths, step_at, place_at, reach_of}
use Rattle.apl_arrays.proofs.Steps.{no_axis, near_at, reach_at_step}
use Rattle.apl_arrays.proofs.Nth.{size_at, size_next, size_pos, row_below, rest_below, nth_next}
use Rattle.apl_arrays.proofs.axis.nth_place.Goals as goal

pub along-place-requires-clause-within : goal.along-place-requires-clause-within
along-place-requires-clause-within c =
    let e = size_next c.args.axes.now c.loop-axis.axis-index c.loop-axis.size c.loop-axis.rest c.loop-axis-test.true c.loop-axis.invariant.size c.loop-axis.invariant.rest in
    rw e (row_below _ (size_of (lengths (drop (c.loop-axis.axis-index + 1) c.args.axes.now))) c.loop-axis.rest (omega (arith, c.loop-axis.invariant.rest, c.loop-axis.invariant.size, size_at c.args.axes.now c.loop-axis.axis-index c.loop-axis-test.true)))

pub along-place-requires-clause-near : goal.along-place-requires-clause-near
along-place-requires-clause-near c = near_at c.args.axes.now c.loop-axis.axis-index c.loop-axis.place _ c.loop-axis-test.true (omega (arith, c.loop-axis.invariant.near, c.requires.near))

pub nonzero_rem-rest : goal.nonzero_rem-rest
nonzero_rem-rest c =
    let e = size_next c.args.axes.now c.loop-axis.axis-index c.loop-axis.size c.loop-axis.rest c.loop-axis-test.true c.loop-axis.invariant.size c.loop-axis.invariant.rest in
    rw e (size_pos (get_or c.args.axes.now c.loop-axis.axis-index no_axis).length _ c.loop-axis.rest (omega (arith, c.loop-axis.invariant.rest, c.loop-axis.invariant.size, size_at c.args.axes.now c.loop-axis.axis-index c.loop-axis-test.true)))

pub loop-axis-preserved : goal.loop-axis-preserved
loop-axis-preserved c =
    let e = size_next c.args.axes.now c.loop-axis.axis-index c.loop-axis.size c.loop-axis.rest c.loop-axis-test.true c.loop-axis.invariant.size c.loop-axis.invariant.rest in
    let below : c.loop-axis.rest < (get_or c.args.axes.now c.loop-axis.axis-index no_axis).length * size_of (lengths (drop (c.loop-axis.axis-index + 1) c.args.axes.now)) = omega (arith, c.loop-axis.invariant.rest, c.loop-axis.invariant.size, size_at c.args.axes.now c.loop-axis.axis-index c.loop-axis-test.true) in
    let there = c.along-place.ensures ∙ ap (λ z. c.loop-axis.place + step_at (get_or c.args.axes.now c.loop-axis.axis-index no_axis) (c.loop-axis.rest / z)) e in
    record {
      size = e;
      rest = rw e (rest_below _ _ c.loop-axis.rest below);
      place = ap (λ q. place_at q (drop (c.loop-axis.axis-index + 1) c.args.axes.now) (index_at (lengths (drop (c.loop-axis.axis-index + 1) c.args.axes.now)) (c.loop-axis.rest % (c.loop-axis.size / (get_or c.args.axes.now c.loop-axis.axis-index no_axis).length)))) there
          ∙ ap (λ z. place_at (c.loop-axis.place + step_at (get_or c.args.axes.now c.loop-axis.axis-index no_axis) (c.loop-axis.rest / size_of (lengths (drop (c.loop-axis.axis-index + 1) c.args.axes.now)))) (drop (c.loop-axis.axis-index + 1) c.args.axes.now) (index_at (lengths (drop (c.loop-axis.axis-index + 1) c.args.axes.now)) (c.loop-axis.rest % z))) e
          ∙ sym (nth_next c.args.axes.now c.loop-axis.axis-index c.loop-axis.place c.loop-axis.rest c.loop-axis-test.true) ∙ c.loop-axis.invariant.place;
      near = omega (
        arith,
        ap (λ q. reach_of q (drop (c.loop-axis.axis-index + 1) c.args.axes.now)) there,
        reach_at_step c.args.axes.now c.loop-axis.axis-index c.loop-axis.place (c.loop-axis.rest / size_of (lengths (drop (c.loop-axis.axis-index + 1) c.args.axes.now))) c.loop-axis-test.true (row_below _ _ c.loop-axis.rest below),
        c.loop-axis.invariant.near,
      );
    }
