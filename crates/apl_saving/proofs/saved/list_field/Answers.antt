use Rattle.apl_saving.proofs.Pairs.{pairs_more}
use Rattle.apl_saving.proofs.saved.list_field.Goals as goal

pub loop-item-preserved : goal.loop-item-preserved
loop-item-preserved g c = pairs_more g.T.Saved.is_field c.loop-item.fields.items c.push.new.self.items c.args.items.now c.loop-item.item-index c.in_ok-field.field-0 c.item-item.result c.loop-item.invariant c.in_ok-push.ensures.items c.in_ok-field.ensures c.loop-item-test.true c.item-item.is
