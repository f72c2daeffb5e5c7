use Rattle.apl_tokens.proofs.Progress.{one_more}
use Rattle.apl_tokens.proofs.line.spelled.Goals as goal

pub loop-out-preserved : goal.loop-out-preserved
loop-out-preserved c = one_more c.args.text.now c.loop-out.rest.now c.in-Some.after.now c.loop-out.place c.next-place.result c.loop-out.out.items c.push_joined.new.out.items c.in-Some.token
    c.loop-out.invariant (rw c.in-Some.is at c.in_ok-token.ensures.found) (rw c.in-Some.is at c.in_ok-token.ensures.shorter) c.next-place.ensures c.in_ok-push_joined.ensures
