use Rattle.std.proofs.Common.{ap, ◌∙◌}
use Rattle.apl_names.specs.Maps.{last_map, said}
use Rattle.apl_machine_state.specs.State.{is_variable}
use Rattle.apl_machine.proofs.Readers.{global_reads}
use Rattle.apl_machine.proofs.machine.Machine.is_variable.Goals as goal

pub returns : goal.returns
returns c = c.is_variable.ensures ∙ ap is_variable (c.global.ensures ∙ ap (λ m. said (last_map m.workspace.maps) c.args.name.now) c.self-inside.view_is ∙ global_reads c.self.inside.workspace c.args.self.now c.args.name.now c.self.invariant.sound c.self.view_is)
