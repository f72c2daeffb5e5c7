use Rattle.std.proofs.Common.{◌≡◌, ℤ, map, take}
use Rattle.std.specs.Ordering.{int_eq}
use Rattle.std.specs.List.{list_any}
use Rattle.apl_scalar.specs.Functions.{number_of}
use Rattle.apl_search.proofs.bytes.bytes_standing.Given as goal

-- the verdicts so far
abbrev pub invariant-loop-k : goal.invariant-loop-k
invariant-loop-k l = take l.k l.verdicts ≡ map (λ (x : ℤ). number_of (list_any (int_eq x) l.among)) (take l.k l.sought)
