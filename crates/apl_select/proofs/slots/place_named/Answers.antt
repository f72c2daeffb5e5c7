use Rattle.std.proofs.Common.{get_or, arith, ap, sym, ◌∙◌}
use Rattle.apl_arrays.proofs.Places.{room_step, room_so_far}
use Rattle.apl_select.specs.inside.Single.{counted_by}
use Rattle.apl_select.proofs.SinglePlace.{placed_step}
use Rattle.apl_select.proofs.slots.place_named.Goals as goal

pub overflow_mul-place : goal.overflow_mul-place
overflow_mul-place c = omega (arith, room_so_far c.args.shape.now c.loop-axis.axis c.loop-axis.place c.in_ok-counted.counted _ c.loop-axis-test.true c.in_ok-counted.ensures.within c.loop-axis.invariant.small)

pub overflow_add-place : goal.overflow_add-place
overflow_add-place c = omega (arith, room_so_far c.args.shape.now c.loop-axis.axis c.loop-axis.place c.in_ok-counted.counted _ c.loop-axis-test.true c.in_ok-counted.ensures.within c.loop-axis.invariant.small)

pub loop-axis-preserved : goal.loop-axis-preserved
loop-axis-preserved c = record {
  so_far =
      placed_step c.args.origin c.loop-axis.place c.args.shape.now c.args.slots.now c.loop-axis.axis c.index-slots-axis.result c.in_ok-counted.counted c.loop-axis-test.true (omega arith)
      (ap (counted_by (get_or c.args.shape.now c.loop-axis.axis 0) c.args.origin) (sym c.index-slots-axis.is) ∙ sym c.in_ok-counted.ensures.value)
      ∙ c.loop-axis.invariant.so_far;
  small = room_step c.args.shape.now c.loop-axis.axis c.loop-axis.place c.in_ok-counted.counted _ c.loop-axis-test.true c.in_ok-counted.ensures.within c.loop-axis.invariant.small;
}
