use Rattle.std.proofs.Common.{◌∙◌, arith}
use Rattle.apl_turns.proofs.Blockwise.{one_more}
use Rattle.apl_turns.proofs.mirrored.put_each.Goals as goal

pub loop-k-preserved : goal.loop-k-preserved
loop-k-preserved g c = record {
  items =
      one_more c.args.out.now.items c.loop-k.out.items c.push_reserved.new.self.items c.args.line.now c.loop-k.k c.index-line-line.result c.loop-k-test.true c.index-line-line.is c.push_reserved.ensures.items
      c.loop-k.invariant.items;
  count = omega (arith, c.push_reserved.ensures.len, c.loop-k.invariant.count);
  room = c.push_reserved.ensures.capacity ∙ c.loop-k.invariant.room;
}
