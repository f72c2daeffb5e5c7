use Rattle.std.proofs.Common.{◌+◌, drop, refl, sym, subst, arith}
use Rattle.std.proofs.lemmas.Result.{err_from_is_err_and}
use Rattle.apl_loading.specs.Refusals.{TakesContext, RefusesContext, context_after, nothing_below}
use Rattle.apl_loading.proofs.Lists.{drop_past}
use Rattle.apl_loading.proofs.Taken.{HasTaken, all_taken, more_taken, none_taken, not_taken}
use Rattle.apl_loading.proofs.contexts.read_contexts.Goals as goal

pub loop-i-init : goal.loop-i-init
loop-i-init c = (omega arith, (nothing_below, record { awaited = refl; count = refl }, subst (λ ps. HasTaken TakesContext RefusesContext context_after nothing_below c.args.fields.now nothing_below c.args.fields.now ps) (sym c.in_ok-contexts.ensures.items) (none_taken TakesContext RefusesContext context_after nothing_below c.args.fields.now)))

pub returns-in_err-built-clause-refused : goal.returns-in_err-built-clause-refused
returns-in_err-built-clause-refused c =
    let p = err_from_is_err_and c.from_residual-in_err-built.result c.from_residual-in_err-built.ensures.1 in
    let s = c.loop-i.invariant.1.0 in
    rw (p.1, p.2) (λ m.
    not_taken TakesContext RefusesContext context_after nothing_below c.args.fields.now s c.loop-i.i c.loop-i.contexts.items c.index-fields-i.result c.in_err-built.field-0.0 c.loop-i.invariant.1.2 c.loop-i-test.true c.index-fields-i.is
    (subst (λ r. RefusesContext s r c.index-fields-i.result c.in_err-built.field-0.0) c.split_at.ensures.back (c.in_err-built.ensures.refused s c.loop-i.invariant.1.1 m)))

pub loop-i-preserved : goal.loop-i-preserved
loop-i-preserved c =
    let s = c.loop-i.invariant.1.0 in
    let below = c.loop-i.invariant.1.1 in
    let part = c.in_ok-built.built.part in
    let rest = drop (c.loop-i.i + 1) c.args.fields.now in
    let taken : TakesContext s rest c.index-fields-i.result part = subst (λ r. TakesContext s r c.index-fields-i.result part) c.split_at.ensures.back (c.in_ok-built.ensures.found s below) in (
      omega (arith, c.in_ok-built.ensures.few, c.counts-standing.ensures.value),
      (
        context_after s part,
        record { awaited = (c.in_ok-built.built.listing.items, c.in_ok-built.ensures.made); count = omega (arith, below.count, c.in_ok-built.ensures.counted, c.counts-standing.ensures.value) },
        subst (λ ps. HasTaken TakesContext RefusesContext context_after nothing_below c.args.fields.now (context_after s part) rest ps) (sym c.in_ok-push.ensures.items)
            (more_taken TakesContext RefusesContext context_after nothing_below c.args.fields.now s c.loop-i.i c.loop-i.contexts.items c.index-fields-i.result part c.loop-i.invariant.1.2 c.loop-i-test.true c.index-fields-i.is taken),
      ),
    )

pub returns-clause-found : goal.returns-clause-found
returns-clause-found c = all_taken TakesContext RefusesContext context_after nothing_below c.args.fields.now c.loop-i.invariant.1.0 (drop c.loop-i.i c.args.fields.now) c.loop-i.contexts.items c.loop-i.invariant.1.2 (drop_past c.args.fields.now c.loop-i.i c.loop-i-test.false)
