use Rattle.std.proofs.Common.{◌≡◌, length}
use Rattle.apl_defn.specs.Headers.{kinds}
use Rattle.apl_defn.specs.Reading.{locals_of}
use Rattle.apl_defn.proofs.Steps.{prefixed}
use Rattle.apl_defn.proofs.reading.locals_at.Given as goal

abbrev pub invariant-loop-rest : goal.invariant-loop-rest
invariant-loop-rest l = prefixed l.out.items (locals_of (kinds l.rest)) ≡ locals_of (kinds l.tokens)

abbrev pub decreases-loop-rest : goal.decreases-loop-rest
decreases-loop-rest l = length l.rest
