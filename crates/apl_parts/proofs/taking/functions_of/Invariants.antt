use Rattle.std.proofs.Common.{◌≡◌, take}
use Rattle.std.specs.List.{flat_map}
use Rattle.apl_names.specs.Maps.{last_map, said}
use Rattle.apl_parts.specs.Making.{function_at}
use Rattle.apl_parts.proofs.taking.functions_of.Given as goal

abbrev pub invariant-loop-name : goal.invariant-loop-name
invariant-loop-name l = l.functions.items ≡ flat_map (λ k. function_at l.stops l.traces k.0 (said (last_map l.names) k.0)) (take l.name-index l.globals)
