use Rattle.std.proofs.Common.{◌≡◌, map, take}
use Rattle.std.specs.List.{flat_map}
use Rattle.apl_translate.specs.Binding.{name_in}
use Rattle.apl_machine_state.specs.Environment.{class_of}
use Rattle.apl_listed.proofs.binding.classes_of.Given as goal

abbrev pub invariant-loop-token : goal.invariant-loop-token
invariant-loop-token l = l.classes.items ≡ map (class_of l.machine.world l.machine.contexts) (flat_map (λ t. name_in t.kind) (take l.token-index l.tokens))
