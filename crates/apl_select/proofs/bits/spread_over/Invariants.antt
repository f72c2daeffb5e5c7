use Rattle.std.proofs.Common.{◌≡◌, map, take}
use Rattle.std.specs.Prelude.{count_by}
use Rattle.std.specs.List.{range_with_len}
use Rattle.apl_select.specs.Compress.{is_one, spread_at}
use Rattle.apl_select.proofs.bits.spread_over.Given as goal

abbrev pub invariant-loop-k : goal.invariant-loop-k
invariant-loop-k g l = record {
  next : l.next ≡ count_by is_one (take l.k (g.L.Lane.numbers l.bits));
  places : l.places.items ≡ map (spread_at (g.L.Lane.numbers l.bits) l.len) (range_with_len 0 l.k);
}
