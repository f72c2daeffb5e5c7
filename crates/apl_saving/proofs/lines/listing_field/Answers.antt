use Rattle.std.proofs.lemmas.Bool.{false≢true}
use Rattle.apl_saving.proofs.Listings.{listing_utf8}
use Rattle.apl_saving.proofs.lines.listing_field.Goals as goal

pub unreachable-requires : goal.unreachable-requires
unreachable-requires c = false≢true (c.in_default.ensures.succeeds (listing_utf8 c.args.code.now c.in_ok-listing.field-0.items c.len-len.ensures.is_code c.in_ok-listing.ensures))
