use Rattle.std.proofs.Common.{◌∙◌, arith}
use Rattle.apl_tokens.proofs.Written.{one_more, at_end}
use Rattle.apl_tokens.proofs.writing.written.Goals as goal

pub loop-token-preserved : goal.loop-token-preserved
loop-token-preserved c = rw c.is_any_name-named.ensures (one_more c.loop-token.text.items c.push_blanks.new.text.items c.push_word.new.text.items _ c.loop-token.named c.is_after_name.result c.args.tokens.now c.loop-token.token-index c.saturating_sub-gap.result c.token-item.result
    c.loop-token-test.true c.token-item.is (omega (arith, c.saturating_sub.ensures, c.saturating_sub-gap.ensures, c.len.ensures)) c.is_after_name.ensures c.in_ok-push_blanks.ensures c.in_ok-push_word.ensures c.loop-token.invariant)

pub returns : goal.returns
returns c = c.new.ensures ∙ at_end c.loop-token.text.items _ c.loop-token.named c.args.tokens.now c.loop-token.token-index c.loop-token-test.false c.loop-token.invariant
