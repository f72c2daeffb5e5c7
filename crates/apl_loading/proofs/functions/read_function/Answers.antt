use Rattle.std.proofs.Common.{◌∙◌, ap, refl, subst}
use Rattle.apl_defn.specs.Defining.{IsDefined}
use Rattle.apl_parts.specs.Pieces.{Watched}
use Rattle.apl_saved.specs.Spelled.{IsDefinitionOf}
use Rattle.apl_loading.proofs.OneDefinition.{not_true}
use Rattle.apl_loading.proofs.OneFunction.{next_function, no_function}
use Rattle.apl_loading.proofs.functions.read_function.Goals as goal

pub returns-then-not-is_next-clause-refused : goal.returns-then-not-is_next-clause-refused
returns-then-not-is_next-clause-refused c m = (refl, no_function c.args.before c.args.field.now c.in_ok-definition.definition (subst (λ ls. IsDefinitionOf c.args.field.now.header ls c.in_ok-definition.definition × IsDefined c.in_ok-definition.definition) c.as_slice.ensures c.in_ok-definition.ensures.found) (λ h. not_true c.is_next.result c.if-not-is_next.true (c.is_next.ensures.1 h)))

pub returns-clause-found : goal.returns-clause-found
returns-clause-found c =
    let d = c.in_ok-definition.definition in
    let made = c.new-2.ensures in
    next_function c.args.before c.args.field.now d c.new-2.result (subst (λ ls. IsDefinitionOf c.args.field.now.header ls d × IsDefined d) c.as_slice.ensures c.in_ok-definition.ensures.found) (c.is_next.ensures.0 c.if-not-is_next.false)
    (ap (λ (w : Watched). w.definition) made ∙ c.in_ok-function.ensures)
    (ap (λ (w : Watched). w.stops) made ∙ (c.in_ok-stops.ensures.items ∙ c.as_slice-2.ensures))
    (ap (λ (w : Watched). w.traces) made ∙ (c.in_ok-traces.ensures.items ∙ c.as_slice-3.ensures))
