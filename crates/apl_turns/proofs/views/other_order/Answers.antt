use Rattle.std.proofs.Common.{◌-◌, [], arith, refl}
use Rattle.apl_turns.proofs.Blocks.{push_step}
use Rattle.apl_turns.proofs.views.other_order.Goals as goal

pub loop-m-preserved : goal.loop-m-preserved
loop-m-preserved c = record {
  so_far = push_step (λ m. c.args.rank - 1 - m) [] c.loop-m.axes.items c.push.new.self.items (c.args.rank - 1 - c.loop-m.m) c.loop-m.m c.loop-m.invariant.so_far c.push.ensures.items refl;
  count = omega (arith, c.push.ensures.len, c.loop-m.invariant.count);
}
