use Rattle.std.proofs.Common.{sym, subst}
use Rattle.apl_loading.specs.inside.Made.{IsListed}
use Rattle.apl_loading.proofs.OneDefinition.{not_true}
use Rattle.apl_loading.proofs.OneStep.{refused_place, refused_code, taken}
use Rattle.apl_loading.proofs.contexts.read_context.Goals as goal

pub returns-then-not-may_stand-clause-refused : goal.returns-then-not-may_stand-clause-refused
returns-then-not-may_stand-clause-refused c s below m =
    refused_place c.args.awaits c.args.standing s c.args.behind.now c.args.field.now below c.in_ok-values.values.locals.items c.in_ok-values.values.operands.items
    (c.is_within_limits.ensures.0 c.if-not-is_within_limits.false) c.in_ok-values.ensures.found c.in_ok-built.built.part c.in_ok-built.built.awaits c.in_ok-built.built.listing.items c.in_ok-built.ensures.found
    (λ h. not_true c.may_stand.result c.if-not-may_stand.true (c.may_stand.ensures.1 h))

pub returns-then-not-has_listing-clause-refused : goal.returns-then-not-has_listing-clause-refused
returns-then-not-has_listing-clause-refused c s below m =
    refused_code c.args.awaits c.args.standing s c.args.behind.now c.args.field.now below c.in_ok-values.values.locals.items c.in_ok-values.values.operands.items
    (c.is_within_limits.ensures.0 c.if-not-is_within_limits.false) c.in_ok-values.ensures.found c.in_ok-built.built.part c.in_ok-built.built.awaits c.in_ok-built.built.listing.items c.in_ok-built.ensures.found
    (c.may_stand.ensures.0 c.if-not-may_stand.false)
    (λ h. not_true c.has_listing.result c.if-not-has_listing.true (c.has_listing.ensures.1 (subst (IsListed c.args.field.now) (sym c.as_slice.ensures.value) h)))

pub returns-clause-found : goal.returns-clause-found
returns-clause-found c s below =
    taken c.args.awaits c.args.standing s c.args.behind.now c.args.field.now below c.in_ok-values.values.locals.items c.in_ok-values.values.operands.items
    (c.is_within_limits.ensures.0 c.if-not-is_within_limits.false) c.in_ok-values.ensures.found c.in_ok-built.built.part c.in_ok-built.built.awaits c.in_ok-built.built.listing.items c.in_ok-built.ensures.found
    (c.may_stand.ensures.0 c.if-not-may_stand.false)
    (subst (IsListed c.args.field.now) c.as_slice.ensures.value (c.has_listing.ensures.0 c.if-not-has_listing.false))
