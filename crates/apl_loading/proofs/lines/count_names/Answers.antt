use Rattle.std.proofs.Common.{ap, ◌∙◌}
use Rattle.std.specs.List.{count_by}
use Rattle.apl_loading.specs.inside.Made.{is_named}
use Rattle.apl_loading.proofs.OneLine.{names_number}
use Rattle.apl_loading.proofs.lines.count_names.Goals as goal

pub returns : goal.returns
returns c = c.names_among.ensures ∙ ap (count_by is_named) c.without_label.ensures ∙ names_number c.args.tokens.now
