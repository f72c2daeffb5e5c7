use Rattle.std.proofs.Common.{length}
use Rattle.apl_translate.proofs.phrase.+slots_width.Given as goal

abbrev pub decreases-slots_width : goal.decreases-slots_width
decreases-slots_width l = length l.items.now
