use Rattle.std.proofs.Common.{ap, ◌∙◌}
use Rattle.apl_defn.specs.Definitions.{Definition, Header}
use Rattle.apl_vectors.specs.Vectors.{has_line}
use Rattle.apl_machine.specs.Spaces.{Space}
use Rattle.apl_machine.proofs.workspace.Workspace.come_into.Goals as goal

pub returns-in-Ok-clause-stopped : goal.returns-in-Ok-clause-stopped
returns-in-Ok-clause-stopped c =
    c.has-stops.ensures
    ∙ ap (λ (h : Header). has_line h.name 1 c.self.inside.stops) (c.header.ensures.value ∙ ap (λ (x : Definition). x.header) c.definition.ensures)
    ∙ ap (λ (x : Space). has_line c.args.function.header.name 1 x.kept.stops) c.self.view_is

pub returns-in-Ok-clause-ok : goal.returns-in-Ok-clause-ok
returns-in-Ok-clause-ok c = c.in-Ok.ensures.ok
