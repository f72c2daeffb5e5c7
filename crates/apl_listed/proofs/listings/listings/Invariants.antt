use Rattle.std.proofs.Common.{map, take}
use Rattle.std.specs.List.{AllZip}
use Rattle.apl_listed.specs.Listings.{Lists}
use Rattle.apl_listed.proofs.listings.listings.Given as goal

abbrev pub invariant-loop-i : goal.invariant-loop-i
invariant-loop-i l = AllZip (Lists l.machine) (take l.i l.definition.lines) (map (λ bytes. bytes.items) l.found.items)
