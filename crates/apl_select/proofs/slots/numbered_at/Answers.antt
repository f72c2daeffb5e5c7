use Rattle.std.proofs.Common.{FitsSigned, w64, ap, ◌∙◌, rules}
use Rattle.apl_select.specs.Indexing.{place_numbered}
use Rattle.apl_select.proofs.Lanes.{number_told}
use Rattle.apl_select.proofs.slots.numbered_at.Goals as goal

pub returns : goal.returns
returns g c =
    let fits : FitsSigned w64 c.wide.result = search rules in
    c.numbered.ensures
    ∙ ap (place_numbered c.args.len c.args.origin)
    (number_told g.L.Lane.value g.L.Lane.numbers g.met.L.Lane.each c.args.numbers.now c.args.at c.index-numbers-at.result c.wide.result fits c.requires c.index-numbers-at.is c.wide.ensures.value)
