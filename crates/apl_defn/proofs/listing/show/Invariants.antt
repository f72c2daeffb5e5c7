use Rattle.std.proofs.Common.{◌≡◌, suc, ◌∷◌, ◌++◌, drop}
use Rattle.apl_defn.specs.Listing.{canonical, numbered_from, margin}
use Rattle.apl_defn.proofs.listing.show.Given as goal

abbrev pub invariant-loop-i : goal.invariant-loop-i
invariant-loop-i l = l.out.items ++ numbered_from (suc l.i) (drop l.i l.lines) ≡ (margin ++ (32 ∷ canonical l.definition.header)) ∷ numbered_from 1 l.definition.lines
