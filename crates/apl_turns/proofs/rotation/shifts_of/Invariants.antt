use Rattle.std.proofs.Common.{◌≡◌, map, take}
use Rattle.apl_arrays.specs.Numbers.{values}
use Rattle.apl_turns.specs.inside.Lines.{shift_of}
use Rattle.apl_turns.proofs.rotation.shifts_of.Given as goal

abbrev pub invariant-loop-k : goal.invariant-loop-k
invariant-loop-k l = l.shifts.items ≡ map (shift_of l.rows) (take l.k (values l.numbers))
