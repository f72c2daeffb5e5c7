use Rattle.std.proofs.Common.{◌≡◌, length, map, take}
use Rattle.apl_arrays.proofs.squeeze.convert.Given as goal

abbrev pub invariant-loop-k : goal.invariant-loop-k
invariant-loop-k g l = record {
  long : length l.out ≡ length l.items;
  made : map g.M.Lane.value (take l.k l.out) ≡ map g.L.Lane.value (take l.k l.items);
}
