use Rattle.std.specs.Prelude.{string_bytes}
use Rattle.apl_saving.proofs.InSet.{line_more}
use Rattle.apl_saving.proofs.texts.text_field.Goals as goal

pub loop-c-preserved : goal.loop-c-preserved
loop-c-preserved c = line_more (string_bytes c.loop-c.written) (string_bytes c.push.new.self) c.args.text.now c.loop-c.c-index c.code.result c.c-item.result c.loop-c.invariant c.in_ok-push.ensures.bytes c.code.ensures.value c.code.ensures.in_set c.loop-c-test.true c.c-item.is
