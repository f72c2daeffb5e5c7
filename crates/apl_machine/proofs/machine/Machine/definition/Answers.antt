use Rattle.std.proofs.Common.{ap, ◌∙◌}
use Rattle.apl_names.specs.Maps.{last_map, said}
use Rattle.apl_names.specs.Maps.{function_in}
use Rattle.apl_machine.proofs.Readers.{global_reads}
use Rattle.apl_machine.proofs.machine.Machine.definition.Goals as goal

pub returns : goal.returns
returns c = c.function_in.ensures ∙ ap function_in (c.global.ensures ∙ ap (λ m. said (last_map m.workspace.maps) c.args.name.now) c.self-inside.view_is ∙ global_reads c.self.inside.workspace c.args.self.now c.args.name.now c.self.invariant.sound c.self.view_is)
