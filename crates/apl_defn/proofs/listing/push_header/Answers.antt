use Rattle.std.proofs.Common.{rules, append_assoc}
use Rattle.apl_defn.specs.Listing.{canonical}
use Rattle.apl_defn.proofs.listing.push_header.Goals as goal

pub returns : goal.returns
unfolding canonical
returns c = search (rules, append_assoc)
