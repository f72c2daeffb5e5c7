use Rattle.apl_reshape.proofs.InBlocks.{scalar_block, item_block}
use Rattle.apl_reshape.proofs.blocks.push_block.Goals as goal

pub returns-then-block : goal.returns-then-block
returns-then-block g c = λ d.
    scalar_block c.args.block.is_scalar c.args.items.now c.args.out.now.items c.repeat.new.out.items c.index-items-0.result d c.args.row c.args.block.len c.if-block.true c.requires c.index-items-0.is c.in_ok-repeat.ensures

pub returns : goal.returns
returns g c = λ d.
    item_block c.args.block.is_scalar c.args.items.now c.piece.result.now c.args.out.now.items c.extend_from_slice.new.self.items d c.args.row c.args.block.len c.if-block.false c.requires c.piece.ensures
    c.in_ok-extend_from_slice.ensures.items
