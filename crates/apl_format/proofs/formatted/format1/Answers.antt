use Rattle.std.proofs.Common.{◌∙◌, Ok, sym, ap}
use Rattle.apl_arrays.specs.Left.{listed}
use Rattle.apl_format.proofs.Limits.{characters_stay}
use Rattle.apl_format.proofs.formatted.format1.Goals as goal

pub returns-in_ok-copy-in-Chars : goal.returns-in_ok-copy-in-Chars
returns-in_ok-copy-in-Chars c =
    characters_stay c.args.array.now c.in-Chars.field-0.now (sym c.items.ensures.value ∙ ap listed c.in-Chars.is) c.items.ensures.array.small ∙ ap Ok (sym c.in_ok-copy-in-Chars.ensures.value)
