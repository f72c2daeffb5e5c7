use Rattle.std.proofs.Common.{length, ◌-◌}
use Rattle.apl_scalar.specs.Lanes.{IsBegun}
use Rattle.apl_scalar.proofs.blocks.push_lines.Given as goal

abbrev pub invariant-loop-x : goal.invariant-loop-x
invariant-loop-x g l = IsBegun g.K.Kernel.meaning (g.X.Line.number l.x) (g.Y.Line.number l.y) l.count (g.M.Lane.numbers l.out.items)

abbrev pub decreases-loop-x : goal.decreases-loop-x
decreases-loop-x g l = l.count - length l.out.items
