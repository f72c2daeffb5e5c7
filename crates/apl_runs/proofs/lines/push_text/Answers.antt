use Rattle.apl_runs.proofs.Writing.{text-more}
use Rattle.apl_runs.proofs.lines.push_text.Goals as goal

pub loop-c-preserved : goal.loop-c-preserved
loop-c-preserved c = text-more _ _ _ c.args.text.now c.loop-c.c-index c.c-item.result c.code.result c.loop-c-test.true c.loop-c.invariant c.in_ok-push.ensures.bytes c.code.ensures.value c.c-item.is
