use Rattle.std.proofs.Common.{◌≡◌, length, map, take}
use Rattle.std.specs.List.{flat_map, fold}
use Rattle.std.specs.Hash as fed
use Rattle.apl_arrays.proofs.equality.hash_items.Given as goal

abbrev pub invariant-loop-item : goal.invariant-loop-item
invariant-loop-item g l =
    let write = g.H.Hasher.write in
    l.state ≡ fold write (fold write l.fn.state (fed.usize (length l.items))) (flat_map fed.i64 (map g.L.Lane.value (take l.item-index l.items)))
