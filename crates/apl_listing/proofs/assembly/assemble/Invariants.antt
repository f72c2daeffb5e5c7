use Rattle.std.proofs.Common.{◌-◌, length}
use Rattle.apl_listing.specs.Assembly.{Reads}
use Rattle.apl_listing.proofs.assembly.assemble.Given as goal

abbrev pub invariant-loop-code : goal.invariant-loop-code
invariant-loop-code l = Reads l.text l.code.items l.at

abbrev pub decreases-loop-code : goal.decreases-loop-code
decreases-loop-code l = 1000 - length l.code.items
