use Rattle.std.proofs.Common.{◌<◌, length, vec_len, sym, ap, ◌∙◌, arith}
use Rattle.std.specs.Prelude.{slice_get, option_map}
use Rattle.apl_machine.specs.Standing.{calls_in, seen}
use Rattle.apl_kept.specs.inside.Calls.{map_at, standing_call}
use Rattle.apl_kept.specs.Indicator.{indicator as told}
use Rattle.apl_kept.proofs.Indicated.{all_told, fewer, told_more}
use Rattle.apl_kept.proofs.indicator.indicator.Goals as goal

pub loop-call-preserved : goal.loop-call-preserved
loop-call-preserved c =
    let s = c.args.machine.now in
    let at = sym (ap (option_map seen) c.in-Some.is) ∙ c.call.ensures ∙ ap (slice_get (calls_in s.contexts)) c.len.ensures in
    let is = c.in_ok-standing_call.ensures ∙ ap (λ k. standing_call (seen c.in-Some.call) (map_at s k)) c.len-in-Some.ensures in
    told_more s c.loop-call.calls.items c.push.new.self.items (vec_len c.loop-call.calls) (vec_len c.push.new.self) (seen c.in-Some.call) c.in_ok-standing_call.field-0 at is c.in_ok-push.ensures.items c.in_ok-push.ensures.len c.loop-call.invariant

pub loop-call-smaller : goal.loop-call-smaller
loop-call-smaller c =
    let s = c.args.machine.now in
    let at = sym (ap (option_map seen) c.in-Some.is) ∙ c.call.ensures ∙ ap (slice_get (calls_in s.contexts)) c.len.ensures in
    let more : vec_len c.loop-call.calls < length (told s.contexts) = fewer s (vec_len c.loop-call.calls) (seen c.in-Some.call) at in
    omega (arith, more, c.in_ok-push.ensures.len)

pub returns : goal.returns
returns c =
    let s = c.args.machine.now in
    let at = sym (ap (option_map seen) c.in_default.is) ∙ c.call.ensures ∙ ap (slice_get (calls_in s.contexts)) c.len.ensures in
    all_told s c.loop-call.calls.items (vec_len c.loop-call.calls) at c.loop-call.invariant
