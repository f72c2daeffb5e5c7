use Rattle.std.proofs.Common.{◌≡◌, ◌++◌, [], map, drop}
use Rattle.apl_listing.specs.Listing.{fields, operand}
use Rattle.apl_listing.proofs.writing.push_each.Given as goal

abbrev pub invariant-loop-source : goal.invariant-loop-source
invariant-loop-source l = l.out.items ++ fields (map operand (drop l.source-index l.sources)) [] ≡ l.initial.out.items ++ fields (map operand l.sources) []
