use Rattle.std.proofs.Common.{sym, ◌∙◌}
use Rattle.apl_saving.proofs.Numbered.{is_there, line_next}
use Rattle.apl_saving.proofs.functions.line_behind.Goals as goal

pub unreachable-requires : goal.unreachable-requires
unreachable-requires c = is_there c.args.definition.now.lines c.args.n c.requires c.in_default.ensures.none

pub returns : goal.returns
returns c = sym (line_next c.args.definition.now.lines c.args.n) ∙ c.in-Some.ensures.value
