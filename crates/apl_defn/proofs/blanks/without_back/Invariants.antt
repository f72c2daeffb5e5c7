use Rattle.std.proofs.Common.{◌≡◌, length, reverse}
use Rattle.apl_defn.specs.Blanks.{without_leading}
use Rattle.apl_defn.proofs.blanks.without_back.Given as goal

abbrev pub invariant-loop-last : goal.invariant-loop-last
invariant-loop-last l = without_leading (reverse l.rest) ≡ without_leading (reverse l.fn.text)

abbrev pub decreases-loop-last : goal.decreases-loop-last
decreases-loop-last l = length l.rest
