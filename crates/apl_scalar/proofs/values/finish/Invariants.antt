use Rattle.std.proofs.Common.{◌≡◌, length}
use Rattle.apl_scalar.specs.Operands.{number_at, shown}
use Rattle.apl_scalar.specs.Lanes.{IsBegun}
use Rattle.apl_scalar.proofs.values.finish.Given as goal

abbrev pub invariant-loop-k : goal.invariant-loop-k
invariant-loop-k g l = record {
  here : l.k ≡ length l.made.items;
  begun : IsBegun g.T.Tested.meaning (number_at (shown l.a)) (number_at (shown l.b)) l.count (g.M.Lane.numbers l.made.items);
}
