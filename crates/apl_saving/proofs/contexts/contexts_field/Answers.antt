use Rattle.apl_saved.specs.Spelled.{IsContextOf}
use Rattle.apl_saving.proofs.Pairs.{pairs_more}
use Rattle.apl_saving.proofs.contexts.contexts_field.Goals as goal

pub loop-part-preserved : goal.loop-part-preserved
loop-part-preserved c = pairs_more IsContextOf c.loop-part.fields.items c.push.new.self.items c.args.parts.now c.loop-part.part-index c.in_ok-context_field.field-0 c.part-item.result c.loop-part.invariant c.in_ok-push.ensures.items c.in_ok-context_field.ensures c.loop-part-test.true c.part-item.is
