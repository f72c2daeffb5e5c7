use Rattle.std.proofs.Common.{◌≡◌, drop}
use Rattle.apl_machine_state.specs.Objects.{erased}
use Rattle.apl_machine.specs.Spaces.{IsSound, state_of}
use Rattle.apl_machine.proofs.objects.erase.Given as goal

abbrev pub invariant-loop-name : goal.invariant-loop-name
invariant-loop-name l = IsSound l.workspace × (erased (drop l.name-index l.names) (state_of l.workspace) ≡ erased l.names (state_of l.fn.workspace))
