use Rattle.std.proofs.Common.{refl, sym, subst, ◌∙◌}
use Rattle.apl_charset.specs.Text.{IsLine}
use Rattle.apl_loading.proofs.OneName.{is_named, no_name, none_named, other_named}
use Rattle.apl_loading.proofs.OneDefinition.{not_true}
use Rattle.apl_loading.proofs.names.read_name.Goals as goal

pub returns-in_default-clause-refused : goal.returns-in_default-clause-refused
returns-in_default-clause-refused c m = (refl, no_name c.args.field.now c.in_ok-text.text c.as_slice.result.now c.in_ok-text.ensures.found c.as_slice.ensures (none_named c.as_slice.result.now c.in_ok-name.field-0 c.in_ok-name.ensures c.in_default.not-Some))

pub returns-then-not-are_same-clause-refused : goal.returns-then-not-are_same-clause-refused
returns-then-not-are_same-clause-refused c m = (
  refl,
  no_name c.args.field.now c.in_ok-text.text c.as_slice.result.now c.in_ok-text.ensures.found c.as_slice.ensures
      (other_named c.as_slice.result.now c.in-Some.name c.in_ok-name.field-0 c.in_ok-name.ensures c.in-Some.is
      (λ e. not_true c.are_same.result c.if-not-are_same.true (c.are_same.ensures.1 (c.as_slice-2.ensures.value ∙ (e ∙ (c.as_slice.ensures ∙ sym c.as_slice-3.ensures)))))),
)

pub returns-clause-found : goal.returns-clause-found
returns-clause-found c =
    let same = sym c.as_slice-2.ensures.value ∙ (c.are_same.ensures.0 c.if-not-are_same.false ∙ c.as_slice-3.ensures) in
    (subst (IsLine c.args.field.now) (sym same) c.in_ok-text.ensures.found, is_named c.as_slice.result.now c.in-Some.name (sym c.in_ok-name.ensures ∙ c.in-Some.is))
