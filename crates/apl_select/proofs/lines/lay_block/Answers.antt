use Rattle.std.proofs.Common.{◌+◌, ◌*◌, ◌<◌, ◌++◌, length, arith, ap, sym, ◌∙◌}
use Rattle.apl_select.specs.inside.Laying.{block_of}
use Rattle.apl_select.specs.Lined.{item_or}
use Rattle.apl_select.proofs.Laying.{block_read, block_filled}
use Rattle.apl_select.proofs.lines.lay_block.Goals as goal

pub returns-in_ok-extend_from_slice-in-Some : goal.returns-in_ok-extend_from_slice-in-Some
returns-in_ok-extend_from_slice-in-Some g c =
    let within : (c.args.first + c.in-Some.place) * c.args.block + c.args.block < length c.args.raw.now + 1 = rw c.in-Some.is at c.requires.within in
    c.in_ok-extend_from_slice-in-Some.ensures.items
    ∙ ap (λ z. c.args.out.now.items ++ z) (block_read c.args.raw.now ((c.args.first + c.in-Some.place) * c.args.block) c.args.block c.args.fill (omega arith))
    ∙ ap (λ o. c.args.out.now.items ++ block_of (item_or c.args.fill c.args.raw.now) c.args.first c.args.block o) (sym c.in-Some.is)

pub returns-in_ok-push_fills-in-None : goal.returns-in_ok-push_fills-in-None
returns-in_ok-push_fills-in-None g c =
    c.in_ok-push_fills-in-None.ensures
    ∙ ap (λ z. c.args.out.now.items ++ z) (block_filled c.args.fill 0 c.args.block)
    ∙ ap (λ o. c.args.out.now.items ++ block_of (item_or c.args.fill c.args.raw.now) c.args.first c.args.block o) (sym c.in-None.is)
