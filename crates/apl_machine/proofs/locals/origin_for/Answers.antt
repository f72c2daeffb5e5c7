use Rattle.std.proofs.Common.{◌∙◌, sym, ap}
use Rattle.std.specs.List.{list_any}
use Rattle.std.specs.Str.{bytes_eq}
use Rattle.apl_phrases.specs.Effects.{seen}
use Rattle.apl_machine.specs.inside.Locals.{alone}
use Rattle.apl_machine.proofs.CallNames.{none_local}
use Rattle.apl_machine.proofs.locals.origin_for.Goals as goal

pub returns : goal.returns
returns c = λ lines.
    none_local (seen c.args.scene lines) (alone 1) c.args.locals.now
    (ap (λ o. list_any (λ n. bytes_eq n o) c.args.locals.now) (sym c.origin_name.ensures) ∙ sym c.contains.ensures.value ∙ c.if-contains.false)
