use Rattle.std.proofs.Common.{take}
use Rattle.apl_listing.specs.Assembly.{HasNoEnd}
use Rattle.apl_listing.proofs.assembly.split_line.Given as goal

abbrev pub invariant-loop-i : goal.invariant-loop-i
invariant-loop-i l = HasNoEnd (take l.i l.text)
