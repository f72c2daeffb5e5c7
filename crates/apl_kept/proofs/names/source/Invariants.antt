use Rattle.std.proofs.Common.{◌≡◌, ◌∷◌, take}
use Rattle.apl_defn.specs.Listing.{canonical}
use Rattle.apl_kept.proofs.names.source.Given as goal

abbrev pub invariant-loop-i : goal.invariant-loop-i
invariant-loop-i l = l.lines.items ≡ canonical l.definition.header ∷ take l.i l.definition.lines
