use Rattle.apl_reshape.specs.inside.Rows.{item_at}
use Rattle.apl_reshape.proofs.InBlocks.{rows_more}
use Rattle.apl_reshape.proofs.blocks.Rows.join.Goals as goal

pub loop-row-preserved : goal.loop-row-preserved
loop-row-preserved g c = λ d.
    rows_more (item_at c.args.self.x.is_scalar c.args.xs.now d) (item_at c.args.self.y.is_scalar c.args.ys.now d) c.args.self.x.len c.args.self.y.len c.loop-row.out.items c.push_block.new.out.items c.push_block-in-loop-row.new.out.items c.loop-row.row
    (c.loop-row.invariant d) (c.in_ok-push_block.ensures d) (c.in_ok-push_block-2.ensures d)
