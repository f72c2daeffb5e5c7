use Rattle.std.proofs.Common.{ap, ◌∙◌}
use Rattle.apl_names.specs.Maps.{class_in, found}
use Rattle.apl_machine.proofs.Readers.{class_reads}
use Rattle.apl_machine.proofs.machine.Machine.class_of.Goals as goal

pub returns : goal.returns
returns c = c.class_of.ensures ∙ ap (λ m. class_in (found m.workspace.maps c.args.name.now)) c.self-inside.view_is ∙ class_reads c.self.inside.workspace c.args.self.now c.args.name.now c.self.invariant.sound c.self.view_is
