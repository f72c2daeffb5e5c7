use Rattle.std.proofs.Common.{length, refl, sym, ap, ◌∙◌}
use Rattle.apl_loading.specs.inside.Made.{IsNamedBy}
use Rattle.apl_loading.proofs.Lists.{pair_length}
use Rattle.apl_loading.proofs.OneContext.{no_locals}
use Rattle.apl_loading.proofs.OneDefinition.{not_true}
use Rattle.apl_loading.proofs.locals.read_locals.Goals as goal

pub paired-requires : goal.paired-requires
paired-requires c =
    let p = pair_length IsNamedBy c.args.fields.now c.as_slice.result.now (c.in_ok-are_named.ensures.same.0 c.if-not-branch.false) in
    ap length (c.as_slice-2.ensures.value ∙ sym c.as_slice.ensures.value) ∙ sym p ∙ c.requires

pub returns-then-not-are_locals-clause-refused : goal.returns-then-not-are_locals-clause-refused
returns-then-not-are_locals-clause-refused c m = (
  refl,
  no_locals c.args.header.now c.args.fields.now c.args.values.items c.in_ok-locals.locals.items c.as_slice-3.result.now
      (c.in_ok-locals.ensures.names ∙ c.as_slice-2.ensures.value ∙ c.in_ok-names.ensures) c.in_ok-locals.ensures.values c.as_slice-3.ensures.value (λ h. not_true c.are_locals.result c.if-not-are_locals.true (c.are_locals.ensures.1 h)),
)
