use Rattle.std.proofs.Common.{◌≡◌, ◌++◌, drop, map}
use Rattle.apl_page.specs.Texts.{name_line}
use Rattle.apl_page.proofs.texts.name_lines.Given as goal

abbrev pub invariant-loop-named : goal.invariant-loop-named
invariant-loop-named l = l.lines.items ++ map name_line (drop l.named-index l.names) ≡ map name_line l.names
