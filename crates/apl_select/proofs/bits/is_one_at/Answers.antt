use Rattle.std.proofs.Common.{FitsSigned, w64, ap, ◌∙◌, rules}
use Rattle.apl_select.specs.Compress.{is_one}
use Rattle.apl_select.proofs.Lanes.{number_told}
use Rattle.apl_select.proofs.bits.is_one_at.Goals as goal

pub returns : goal.returns
returns g c =
    let fits : FitsSigned w64 c.wide.result = search rules in
    c.is_one.ensures
    ∙ ap is_one (number_told g.L.Lane.value g.L.Lane.numbers g.met.L.Lane.each c.args.numbers.now c.args.place c.index-numbers-place.result c.wide.result fits c.requires c.index-numbers-place.is c.wide.ensures.value)
