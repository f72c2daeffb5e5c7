use Rattle.std.proofs.Common.{◌≡◌, ◌+◌, ◌%◌, ◌++◌, length, vec_capacity, vec_len}
use Rattle.std.specs.Prelude.{reverse}
use Rattle.apl_turns.proofs.mirrored.put_blocks.Given as goal

abbrev pub invariant-loop-rest : goal.invariant-loop-rest
invariant-loop-rest g l = record {
  whole : length l.rest % 16 ≡ 0;
  items : l.out.items ++ reverse l.rest ≡ l.fn.out.items ++ reverse l.blocks;
  count : vec_len l.out + length l.rest ≡ vec_len l.fn.out + length l.blocks;
  room : vec_capacity l.out ≡ vec_capacity l.fn.out;
}

abbrev pub decreases-loop-rest : goal.decreases-loop-rest
decreases-loop-rest g l = length l.rest
