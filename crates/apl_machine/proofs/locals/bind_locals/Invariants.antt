use Rattle.std.proofs.Common.{◌≡◌, length, map}
use Rattle.apl_arrays.specs.Origins.{origin_number}
use Rattle.apl_machine_state.specs.Calls.{local_of}
use Rattle.apl_names.specs.Maps.{AreBeneath, with_locals}
use Rattle.apl_machine.specs.inside.Locals.{alone}
use Rattle.apl_machine.proofs.locals.bind_locals.Given as goal

abbrev pub invariant-loop-local : goal.invariant-loop-local
invariant-loop-local l = (with_locals (map (local_of (alone (origin_number l.fn.origin))) l.left) l.names ≡ with_locals (map (local_of (alone (origin_number l.fn.origin))) l.fn.locals) l.fn.names) × AreBeneath l.fn.names l.names

abbrev pub decreases-loop-local : goal.decreases-loop-local
decreases-loop-local l = length l.left
