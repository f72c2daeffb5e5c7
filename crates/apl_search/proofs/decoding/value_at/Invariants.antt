use Rattle.std.proofs.Common.{◌≡◌, ◌-◌, map, pos}
use Rattle.std.specs.List.{range_with_len}
use Rattle.apl_search.specs.Decoded.{valued}
use Rattle.apl_search.specs.inside.Flat.{pair_at}
use Rattle.apl_search.proofs.decoding.value_at.Given as goal

-- from the value so far the digits that are left lead to that of all
abbrev pub invariant-loop-k : goal.invariant-loop-k
invariant-loop-k l =
    valued l.value (map (pair_at l.bases l.digits l.along l.width l.place) (range_with_len l.k (l.count - l.k)))
    ≡ valued (pos 0) (map (pair_at l.bases l.digits l.along l.width l.place) (range_with_len 0 l.count))
