use Rattle.std.proofs.Common.{◌≡◌, rules, is_some, true, Some}
use Rattle.apl_defn.specs.Definitions.{Definition}
use Rattle.apl_names.specs.declared.binding.Binding.TheVariants as bindings
use Rattle.apl_names.specs.Maps.{found}
use Rattle.apl_phrases.specs.Effects.{seen}
use Rattle.apl_phrases.proofs.Entering.{dyadic}
use Rattle.apl_phrases.proofs.calling.call_dyadic.Goals as goal

pub returns-then-is_some-2 : goal.returns-then-is_some-2
returns-then-is_some-2 c = λ lines.
    let d : Definition = c.in-Some-Function.function in
    let e : found c.args.scene.names.now c.args.name.now ≡ Some (bindings.Function d) = search rules in
    let l : is_some d.header.left ≡ true = search rules in
    let r : is_some d.header.right ≡ true = search rules in
    dyadic (seen c.args.scene lines) (found c.args.scene.names.now c.args.name.now) d c.args.a.now c.args.b.now _ e l r (c.entered.ensures lines)
