use Rattle.std.proofs.Common.{FitsSigned, map, take}
use Rattle.std.specs.List.{All}
use Rattle.apl_arrays.proofs.squeeze.inspect.Given as goal

abbrev pub invariant-loop-item : goal.invariant-loop-item
invariant-loop-item g l = All (λ z. FitsSigned g.L.Lane.width z) (map g.L.Lane.value (take l.item-index l.items))
