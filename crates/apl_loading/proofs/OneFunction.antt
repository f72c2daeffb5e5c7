-- Functions of a file.
use Rattle.std.proofs.Common.{◌≡◌, Option, sym, subst}
use Rattle.apl_defn.specs.Definitions.{Text, Definition}
use Rattle.apl_defn.specs.Defining.{IsDefined}
use Rattle.apl_order.specs.Kept.{AreLines}
use Rattle.apl_parts.specs.Pieces.{Watched}
use Rattle.apl_workspace_file.specs.declared.fields.FunctionField.{FunctionField}
use Rattle.apl_saved.specs.Spelled.{IsDefinitionOf}
use Rattle.apl_loading.specs.Refusals.{IsBehind, IsNextFunction}
use Rattle.apl_loading.proofs.OneDefinition.{one_definition}

-- where the definition of a field doesn't keep to the rules, no function does
pub no_function : (before : Option Text) (f : FunctionField) (d : Definition) → IsDefinitionOf f.header f.lines d × IsDefined d → ¬ (IsBehind before d.header.name × AreLines d f.stop × AreLines d f.trace) → (w : Watched) → ¬ IsNextFunction before f w
no_function before f d g other w n =
    let e : w.definition ≡ d = one_definition f.header f.lines w.definition d (n.field.definition, n.watched.defined) g in
    other (
      subst (λ (x : Definition). IsBehind before x.header.name) e n.behind,
      subst (λ x. AreLines x f.stop) e (subst (AreLines w.definition) (sym n.field.stops) n.watched.stops),
      subst (λ x. AreLines x f.trace) e (subst (AreLines w.definition) (sym n.field.traces) n.watched.traces),
    )

-- a definition that keeps to the rules, with the vectors of the field, is the next function
pub next_function : (before : Option Text) (f : FunctionField) (d : Definition) (w : Watched) → IsDefinitionOf f.header f.lines d × IsDefined d → IsBehind before d.header.name × AreLines d f.stop × AreLines d f.trace → w.definition ≡ d → w.stops ≡ f.stop → w.traces ≡ f.trace → IsNextFunction before f w
next_function before f d w g (b, s, t) same stops traces = record {
  field = record { definition = subst (IsDefinitionOf f.header f.lines) (sym same) g.0; stops = sym stops; traces = sym traces };
  watched = record {
    defined = subst IsDefined (sym same) g.1;
    stops = subst (λ x. AreLines x w.stops) (sym same) (subst (AreLines d) (sym stops) s);
    traces = subst (λ x. AreLines x w.traces) (sym same) (subst (AreLines d) (sym traces) t);
  };
  behind = subst (λ (x : Definition). IsBehind before x.header.name) (sym same) b;
}
