use Rattle.std.proofs.Common.{arith}
use Rattle.apl_reshape.specs.inside.Asked.{asked_of}
use Rattle.apl_reshape.proofs.Axes.{each_more, each_all}
use Rattle.apl_reshape.proofs.lengths.asked_of_each.Goals as goal

pub loop-axis-preserved : goal.loop-axis-preserved
loop-axis-preserved c = record {
  made =
      each_more (asked_of c.args.asked) c.args.shape.now c.args.counts.now c.loop-axis.numbers.items c.push.new.self.items c.loop-axis.axis c.asked_at.result c.loop-axis-test.true c.requires.axes c.loop-axis.invariant.made c.asked_at.ensures
      c.push.ensures.items;
  count = omega (arith, c.push.ensures.len);
}

pub returns : goal.returns
returns c = each_all (asked_of c.args.asked) c.args.shape.now c.args.counts.now c.loop-axis.numbers.items c.loop-axis.axis (omega arith) c.requires.axes c.loop-axis.invariant.made
