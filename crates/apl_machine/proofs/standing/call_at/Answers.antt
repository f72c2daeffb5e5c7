use Rattle.std.proofs.Common.{◌≡◌, suc, ◌-◌, ◌<◌, List, length, Some, None, sym, ap, subst, ◌∙◌, arith}
use Rattle.std.specs.Prelude.{slice_get, option_copied}
use Rattle.apl_contexts.specs.Callers.{Caller}
use Rattle.apl_contexts.specs.declared.context.Context.{Context}
use Rattle.apl_contexts.specs.Contexts.{call_in}
use Rattle.apl_contexts.specs.Stacks.{contexts_of}
use Rattle.apl_machine.specs.inside.Callers.{callers_in}
use Rattle.apl_machine.proofs.Callers.{no_call, passed, reached, shorter, stands}
use Rattle.apl_machine.proofs.standing.call_at.Goals as goal

pub loop-stack-smaller-in_default : goal.loop-stack-smaller-in_default
loop-stack-smaller-in_default c =
    let cs = contexts_of c.loop-stack.stack in
    let some = stands c.newest.result cs c.newest.ensures (sym c.is_some.ensures ∙ c.loop-stack-test.true) in
    subst (λ n. n < length cs) (sym (ap length c.beneath-stack.ensures)) (shorter cs some)

pub loop-stack-preserved-in_default : goal.loop-stack-preserved-in_default
loop-stack-preserved-in_default c =
    let cs = contexts_of c.loop-stack.stack in
    let none : call_in cs ≡ None = sym c.call-call.ensures ∙ ap option_copied c.in_default.is in
    ap (λ (ds : List Context). slice_get (callers_in ds) c.loop-stack.left) c.beneath-stack.ensures
    ∙ ap (λ (calls : List Caller). slice_get calls c.loop-stack.left) (sym (no_call cs none))
    ∙ c.loop-stack.invariant

pub returns-then-left-eq0 : goal.returns-then-left-eq0
returns-then-left-eq0 c =
    let cs = contexts_of c.loop-stack.stack in
    let there : call_in cs ≡ Some c.in-Some.call.now = sym c.call-call.ensures ∙ ap option_copied c.in-Some.is in
    let last : c.loop-stack.left ≡ 0 = omega (arith, c.if-left-eq0.true) in
    reached cs c.in-Some.call.now c.loop-stack.left there last ∙ c.loop-stack.invariant

pub loop-stack-smaller : goal.loop-stack-smaller
loop-stack-smaller c =
    let cs = contexts_of c.loop-stack.stack in
    let some = stands c.newest.result cs c.newest.ensures (sym c.is_some.ensures ∙ c.loop-stack-test.true) in
    subst (λ n. n < length cs) (sym (ap length c.beneath-stack.ensures)) (shorter cs some)

pub loop-stack-preserved : goal.loop-stack-preserved
loop-stack-preserved c =
    let cs = contexts_of c.loop-stack.stack in
    let there : call_in cs ≡ Some c.in-Some.call.now = sym c.call-call.ensures ∙ ap option_copied c.in-Some.is in
    let more : c.loop-stack.left ≡ suc (c.loop-stack.left - 1) = omega (arith, c.if-left-eq0.false) in
    ap (λ (ds : List Context). slice_get (callers_in ds) (c.loop-stack.left - 1)) c.beneath-stack.ensures
    ∙ passed cs c.in-Some.call.now c.loop-stack.left (c.loop-stack.left - 1) there more
    ∙ c.loop-stack.invariant
