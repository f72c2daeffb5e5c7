use Rattle.std.proofs.Common.{◌∙◌, ap}
use Rattle.std.specs.Option.{option_copied}
use Rattle.apl_names.specs.Maps.{with_locals}
use Rattle.apl_names.proofs.Binds.{with_locals-opened}
use Rattle.apl_machine.specs.inside.Locals.{names_with}
use Rattle.apl_machine.proofs.locals.open_scope.Goals as goal

pub returns-in-Ok-clause-ok : goal.returns-in-Ok-clause-ok
returns-in-Ok-clause-ok c =
    let names = names_with c.args.origin c.args.definition.now (option_copied c.args.left) (option_copied c.args.right) in
    c.in-Ok.ensures.ok ∙ ap (with_locals names) c.in_ok-open.ensures.ok ∙ with_locals-opened names c.args.names.now
