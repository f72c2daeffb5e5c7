use Rattle.std.proofs.Common.{◌≡◌, rules, is_some, false, Some}
use Rattle.apl_defn.specs.Definitions.{Definition}
use Rattle.apl_names.specs.declared.binding.Binding.TheVariants as bindings
use Rattle.apl_names.specs.Maps.{found}
use Rattle.apl_phrases.specs.Effects.{seen}
use Rattle.apl_phrases.proofs.Entering.{niladic}
use Rattle.apl_phrases.proofs.calling.call_niladic.Goals as goal

pub returns-then-is_none : goal.returns-then-is_none
returns-then-is_none c = λ lines.
    let d : Definition = c.in-Some-Function.function in
    let e : found c.args.scene.names.now c.args.name.now ≡ Some (bindings.Function d) = search rules in
    let n : is_some d.header.right ≡ false = search rules in
    niladic (seen c.args.scene lines) (found c.args.scene.names.now c.args.name.now) d _ e n (c.entered.ensures lines)
