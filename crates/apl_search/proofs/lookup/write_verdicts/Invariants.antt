use Rattle.std.proofs.Common.{◌≡◌, map, take}
use Rattle.std.specs.Ordering.{int_eq}
use Rattle.std.specs.List.{list_any}
use Rattle.apl_arrays.specs.Numbers.{values}
use Rattle.apl_scalar.specs.Functions.{number_of}
use Rattle.apl_search.proofs.lookup.write_verdicts.Given as goal

-- the verdicts so far
abbrev pub invariant-loop-k : goal.invariant-loop-k
invariant-loop-k g l = take l.k l.verdicts ≡ map (λ x. number_of (list_any (int_eq (g.L.Lane.value x)) (values l.among))) (take l.k l.sought)
