use Rattle.std.proofs.Common.{◌≡◌, ◌++◌, drop}
use Rattle.apl_session.specs.Commands.{function_names}
use Rattle.apl_session.proofs.commands.function_lines.Given as goal

abbrev pub invariant-loop-name : goal.invariant-loop-name
invariant-loop-name l = l.lines.items ++ function_names (drop l.name-index l.names) ≡ function_names l.names
