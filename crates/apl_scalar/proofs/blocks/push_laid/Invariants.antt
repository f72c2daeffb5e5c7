use Rattle.std.proofs.Common.{length, min, ◌-◌}
use Rattle.apl_scalar.specs.Operands.{number_at}
use Rattle.apl_scalar.specs.Lanes.{shown_in, IsBegun}
use Rattle.apl_scalar.specs.inside.Rooms.{IsReady}
use Rattle.apl_scalar.proofs.blocks.push_laid.Given as goal

abbrev pub invariant-loop-out : goal.invariant-loop-out
invariant-loop-out g l =
    let value = g.L.Lane.value in
    let numbers = g.L.Lane.numbers in
    record {
      room_a : IsReady value l.a (min l.count 256) (numbers l.room_a);
      room_b : IsReady value l.b (min l.count 256) (numbers l.room_b);
      begun : IsBegun g.K.Kernel.meaning (number_at (shown_in value numbers l.a)) (number_at (shown_in value numbers l.b)) l.count (g.M.Lane.numbers l.out.items);
    }

abbrev pub decreases-loop-out : goal.decreases-loop-out
decreases-loop-out g l = l.count - length l.out.items
