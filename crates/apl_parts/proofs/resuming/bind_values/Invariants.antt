use Rattle.std.proofs.Common.{◌≡◌, map, vec_len}
use Rattle.apl_machine_state.specs.Calls.{bound_to}
use Rattle.apl_names.specs.Maps.{with_locals}
use Rattle.apl_parts.proofs.resuming.bind_values.Given as goal

abbrev pub invariant-loop-local : goal.invariant-loop-local
invariant-loop-local l = with_locals (map (λ l. (l.0, bound_to l.1)) l.values.items) l.names ≡ with_locals (map (λ l. (l.0, bound_to l.1)) l.fn.values.items) l.fn.names

abbrev pub decreases-loop-local : goal.decreases-loop-local
decreases-loop-local l = vec_len l.values
