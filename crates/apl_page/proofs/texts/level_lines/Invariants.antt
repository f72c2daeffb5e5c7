use Rattle.std.proofs.Common.{◌≡◌, ◌++◌, drop, map}
use Rattle.apl_session.specs.Commands.{shown_level}
use Rattle.apl_page.proofs.texts.level_lines.Given as goal

abbrev pub invariant-loop-level : goal.invariant-loop-level
invariant-loop-level l = l.lines.items ++ map shown_level (drop l.level-index l.levels) ≡ map shown_level l.levels
