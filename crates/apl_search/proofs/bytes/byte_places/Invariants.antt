use Rattle.std.proofs.Common.{◌≡◌, ◌+◌, ℤ, map, pos, take}
use Rattle.std.specs.Ordering.{int_eq}
use Rattle.std.specs.List.{position_or_len}
use Rattle.apl_search.proofs.bytes.byte_places.Given as goal

-- the places so far
abbrev pub invariant-loop-k : goal.invariant-loop-k
invariant-loop-k l = take l.k l.places ≡ map (λ (y : ℤ). pos (l.first + position_or_len (int_eq y) l.among)) (take l.k l.sought)
