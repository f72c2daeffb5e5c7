use Rattle.std.specs.Prelude.{string_bytes}
use Rattle.apl_saving.proofs.Letters.{letters_more}
use Rattle.apl_saving.proofs.lines.classes_field.Goals as goal

pub loop-class-preserved : goal.loop-class-preserved
loop-class-preserved c = letters_more (string_bytes c.loop-class.letters) (string_bytes c.push.new.self) c.args.classes.now c.loop-class.class-index c.letter_of.result c.loop-class.invariant c.in_ok-push.ensures.bytes c.in_ok-push.ensures.ascii c.letter_of.ensures c.loop-class-test.true
