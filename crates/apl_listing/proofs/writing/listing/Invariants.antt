use Rattle.std.proofs.Common.{◌≡◌, ◌++◌, drop}
use Rattle.apl_listing.specs.Listing.{listed}
use Rattle.apl_listing.proofs.writing.listing.Given as goal

abbrev pub invariant-loop-number : goal.invariant-loop-number
invariant-loop-number l = l.out.items ++ listed l.number (drop l.number l.code) ≡ listed 0 l.code
