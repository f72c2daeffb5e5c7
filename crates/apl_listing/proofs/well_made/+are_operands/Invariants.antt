use Rattle.std.proofs.Common.{length}
use Rattle.apl_listing.proofs.well_made.+are_operands.Given as goal

abbrev pub decreases-are_operands : goal.decreases-are_operands
decreases-are_operands l = length l.shapes.now
