use Rattle.std.proofs.Common.{ap, ◌∙◌}
use Rattle.apl_names.specs.Maps.{value_in, found}
use Rattle.apl_machine.proofs.Readers.{value_reads}
use Rattle.apl_machine.proofs.machine.Machine.value.Goals as goal

pub returns : goal.returns
returns c = c.lookup.ensures ∙ ap (λ m. value_in (found m.workspace.maps c.args.name.now)) c.self-inside.view_is ∙ value_reads c.self.inside.workspace c.args.self.now c.args.name.now c.self.invariant.sound c.self.view_is
