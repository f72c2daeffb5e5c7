use Rattle.std.proofs.Common.{arith, ◌≡◌, ◌+◌, ◌-◌, ◌*◌, get_or}
use Rattle.apl_arrays.proofs.Steps.{no_axis}
use Rattle.apl_folds.proofs.Whole.{whole_more, whole_small}
use Rattle.apl_folds.proofs.order.are_whole.Goals as goal

pub overflow_mul-size : goal.overflow_mul-size
overflow_mul-size c =
    let next : c.loop-k.k - 1 + 1 ≡ c.loop-k.k = omega arith in
    omega (
      arith,
      whole_small c.args.axes.now (c.loop-k.k - 1) (c.loop-k.size * (get_or c.args.axes.now (c.loop-k.k - 1) no_axis).length) c.requires
          (whole_more c.args.axes.now (c.loop-k.k - 1) c.loop-k.k c.loop-k.size next c.loop-k.auto.k c.loop-k.invariant c.if-axis-size.false c.if-axis-ne0.false),
    )
