use Rattle.std.proofs.Common.{refl, ap, ◌∙◌, sym}
use Rattle.std.specs.Prelude.{slice_get}
use Rattle.apl_loading.proofs.OneDefinition.{is_definition, not_headed, not_true}
use Rattle.apl_loading.proofs.definitions.read_definition.Goals as goal

pub returns-then-branch-clause-found : goal.returns-then-branch-clause-found
returns-then-branch-clause-found c = is_definition c.args.header.now c.args.lines.now c.in_ok-texts.texts.items c.in_ok-definition.definition c.in_ok-texts.ensures.found c.in_ok-definition.ensures.found (sym (c.in_ok-first.ensures ∙ ap (λ us. slice_get us 0) c.as_slice.ensures.value) ∙ c.in_ok-is_headed.ensures.0 c.if-branch.true)

pub returns-else-branch-clause-refused : goal.returns-else-branch-clause-refused
returns-else-branch-clause-refused c m = (refl, not_headed c.args.header.now c.args.lines.now c.in_ok-texts.texts.items c.in_ok-definition.definition c.in_ok-texts.ensures.found c.in_ok-definition.ensures.found (λ h. not_true c.in_ok-is_headed.field-0 c.if-branch.false (c.in_ok-is_headed.ensures.1 (c.in_ok-first.ensures ∙ ap (λ us. slice_get us 0) c.as_slice.ensures.value ∙ h))))
