use Rattle.std.proofs.Common.{arith}
use Rattle.apl_listing.proofs.FirstLines.{listed_same}
use Rattle.apl_listing.proofs.assembly.one_listing.Goals as goal

pub returns : goal.returns
returns x c d hc hd e = listed_same 0 c d hc.each hd.each (omega (arith, hc.few)) e
