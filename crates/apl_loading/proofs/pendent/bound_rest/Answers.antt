use Rattle.std.proofs.Common.{false, refl, sym, subst}
use Rattle.apl_translate.specs.Binding.{bound_of}
use Rattle.apl_translate.specs.Translation.{Translates}
use Rattle.apl_loading.specs.inside.Made.{HasStack}
use Rattle.apl_loading.proofs.OneDefinition.{not_true}
use Rattle.apl_loading.proofs.OneLine.{no_stack}
use Rattle.apl_loading.proofs.pendent.bound_rest.Goals as goal

pub returns-then-not-branch-clause-refused : goal.returns-then-not-branch-clause-refused
returns-then-not-branch-clause-refused c m = (
  refl,
  no_stack c.args.tokens.now (record { classes = c.args.classes.items; done = c.args.done; operands = c.args.operands.items }) c.deref-code.result.now
      (subst (λ is. Translates is false (bound_of c.args.tokens.now c.args.classes.items).items) (sym c.deref-code.ensures) (subst (λ cs. Translates c.in_ok-kept.kept.value false (bound_of c.args.tokens.now cs).items) c.as_slice.ensures.value c.in_ok-kept.ensures))
      (λ h. not_true c.in_ok-has_stack.field-0 c.if-not-branch.true (c.in_ok-has_stack.ensures.1 (subst (HasStack c.deref-code.result.now c.args.done) (sym c.as_slice-2.ensures.value) h))),
)
