use Rattle.std.proofs.Common.{◌≡◌, rules, is_some, true, Some}
use Rattle.apl_defn.specs.Definitions.{Definition}
use Rattle.apl_names.specs.declared.binding.Binding.TheVariants as bindings
use Rattle.apl_names.specs.Maps.{found}
use Rattle.apl_phrases.specs.Effects.{seen}
use Rattle.apl_phrases.proofs.Entering.{monadic}
use Rattle.apl_phrases.proofs.calling.call_monadic.Goals as goal

pub returns-then-is_some : goal.returns-then-is_some
returns-then-is_some c = λ lines.
    let d : Definition = c.in-Some-Function.function in
    let e : found c.args.scene.names.now c.args.name.now ≡ Some (bindings.Function d) = search rules in
    let n : is_some d.header.right ≡ true = search rules in
    monadic (seen c.args.scene lines) (found c.args.scene.names.now c.args.name.now) d c.args.b.now _ e n (c.entered.ensures lines)
