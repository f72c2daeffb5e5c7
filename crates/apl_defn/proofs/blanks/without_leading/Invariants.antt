use Rattle.std.proofs.Common.{◌≡◌, length}
use Rattle.apl_defn.specs.Blanks.{without_leading}
use Rattle.apl_defn.proofs.blanks.without_leading.Given as goal

abbrev pub invariant-loop-first : goal.invariant-loop-first
invariant-loop-first l = without_leading l.rest ≡ without_leading l.fn.text

abbrev pub decreases-loop-first : goal.decreases-loop-first
decreases-loop-first l = length l.rest
