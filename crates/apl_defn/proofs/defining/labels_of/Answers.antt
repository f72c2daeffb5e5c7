use Rattle.apl_defn.proofs.Steps.{labels_more}
use Rattle.apl_defn.proofs.defining.labels_of.Goals as goal

pub loop-i-preserved : goal.loop-i-preserved
loop-i-preserved c = labels_more c.loop-i.labels.items c.push_label.new.labels.items c.args.lines.now c.loop-i.i c.index-lines-i.result _ c.loop-i-test.true c.index-lines-i.is (rw c.as_slice.ensures at c.in_ok-push_label.ensures) c.loop-i.invariant
