use Rattle.std.proofs.Common.{◌≡◌, ◌+◌, ◌++◌, take, vec_capacity, vec_len}
use Rattle.std.specs.Prelude.{reverse}
use Rattle.apl_turns.proofs.mirrored.put_each.Given as goal

abbrev pub invariant-loop-k : goal.invariant-loop-k
invariant-loop-k g l = record {
  items : l.out.items ≡ l.fn.out.items ++ take l.k (reverse l.line);
  count : vec_len l.out ≡ vec_len l.fn.out + l.k;
  room : vec_capacity l.out ≡ vec_capacity l.fn.out;
}
