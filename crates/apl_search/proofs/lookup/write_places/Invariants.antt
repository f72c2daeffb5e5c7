use Rattle.std.proofs.Common.{◌≡◌, ◌+◌, map, pos, take}
use Rattle.std.specs.Ordering.{int_eq}
use Rattle.std.specs.List.{position_or_len}
use Rattle.apl_arrays.specs.Numbers.{values}
use Rattle.apl_search.proofs.lookup.write_places.Given as goal

-- the places so far
abbrev pub invariant-loop-k : goal.invariant-loop-k
invariant-loop-k g l = take l.k l.places ≡ map (λ y. pos (l.first + position_or_len (int_eq (g.L.Lane.value y)) (values l.among))) (take l.k l.sought)
