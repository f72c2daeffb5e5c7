use Rattle.std.proofs.Common.{◌≡◌, ◌+◌, take, map, length, vec_len}
use Rattle.std.specs.Prelude.{count_by}
use Rattle.apl_select.specs.Compress.{is_one, kept}
use Rattle.apl_select.specs.Lined.{item_or}
use Rattle.apl_select.proofs.compression.KeepingStructural.make.Given as goal

abbrev pub invariant-loop-k : goal.invariant-loop-k
invariant-loop-k g l =
    let bits = g.L.Lane.numbers l.self.bits.now in
    record {
      size : vec_len l.out ≡ l.count + 1;
      next : l.next ≡ count_by is_one (take l.k bits);
      so_far : take l.next l.out.items ≡ map (item_or l.fn.fill l.items) (kept bits (length bits) l.k);
    }
