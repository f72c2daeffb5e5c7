use Rattle.std.proofs.Common.{arith}
use Rattle.apl_charset.specs.Text.{IsLine}
use Rattle.apl_saving.proofs.Pairs.{pairs_more}
use Rattle.apl_saving.proofs.Numbered.{got_there}
use Rattle.apl_saving.proofs.functions.lines_field.Goals as goal

pub loop-n-preserved : goal.loop-n-preserved
loop-n-preserved c =
    let texts = c.args.definition.now.lines in
    let text = c.line_behind.result.now in
    pairs_more IsLine c.loop-n.lines.items c.push.new.self.items texts c.loop-n.n c.in_ok-text_field.field-0 text c.loop-n.invariant c.in_ok-push.ensures.items c.in_ok-text_field.ensures (omega arith) (got_there texts c.loop-n.n text c.line_behind.ensures)
