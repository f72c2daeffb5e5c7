use Rattle.std.proofs.Common.{take}
use Rattle.apl_charset.specs.Text.{IsLine}
use Rattle.apl_saved.specs.Spelled.{Pairwise}
use Rattle.apl_saving.proofs.functions.lines_field.Given as goal

abbrev pub invariant-loop-n : goal.invariant-loop-n
invariant-loop-n l = Pairwise IsLine l.lines.items (take l.n l.definition.lines)
