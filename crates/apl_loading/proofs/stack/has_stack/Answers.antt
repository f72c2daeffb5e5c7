use Rattle.std.proofs.Common.{[], ◌∷◌, ◌++◌, ◌∙◌, sym, ap, arith}
use Rattle.apl_listing.specs.declared.stack.Kind.{Kind}
use Rattle.apl_listing.specs.declared.stack.Kind.TheVariants as stacked
use Rattle.apl_loading.proofs.OneLine.{beneath}
use Rattle.apl_loading.proofs.stack.has_stack.Goals as goal

pub returns-in-Some-Value : goal.returns-in-Some-Value
returns-in-Some-Value c =
    let b = beneath c.are_of.result c.in_ok-stack.stack.items c.reverse.new.self.items c.as_slice.result.now c.args.operands.now c.reverse.ensures.items
    (c.in-Some-Value.ensures.items ∙ ap (λ (k : Kind). c.pop.new.self.items ++ k ∷ []) c.in-Some-Value.field-0-is ∙ ap (λ ks. ks ++ stacked.Value ∷ []) (sym c.as_slice.ensures.value))
    c.are_of.ensures in
    (λ t. record { begun = omega (arith, c.if-done-lt1.false); runs = omega (arith, c.if-done-len.false, c.len.ensures.value); stack = sym c.in_ok-stack.ensures ∙ b.0 t }, λ h. b.1 (c.in_ok-stack.ensures ∙ h.stack))
