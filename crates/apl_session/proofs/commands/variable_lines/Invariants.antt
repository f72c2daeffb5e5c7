use Rattle.std.proofs.Common.{◌≡◌, ◌++◌, drop}
use Rattle.apl_session.specs.Commands.{variable_names}
use Rattle.apl_session.proofs.commands.variable_lines.Given as goal

abbrev pub invariant-loop-name : goal.invariant-loop-name
invariant-loop-name l = l.lines.items ++ variable_names (drop l.name-index l.names) ≡ variable_names l.names
