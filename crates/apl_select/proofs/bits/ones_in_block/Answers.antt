use Rattle.std.proofs.Common.{◌<◌, length, FitsSigned, w64, cond, ap, ◌∙◌, rules, arith}
use Rattle.apl_select.specs.Compress.{is_one}
use Rattle.apl_select.proofs.Lanes.{length-numbers, number_told}
use Rattle.apl_select.proofs.Masks.{byte_of}
use Rattle.apl_select.proofs.NextPlace.{next_step}
use Rattle.apl_select.proofs.bits.ones_in_block.Goals as goal

pub loop-number-preserved : goal.loop-number-preserved
loop-number-preserved g c =
    let fits : FitsSigned w64 c.wide.result = search rules in
    let zs = g.L.Lane.numbers c.args.block.now in
    let within : c.loop-number.number-index < length zs = omega (arith, c.loop-number-test.true, length-numbers g.L.Lane.value g.L.Lane.numbers g.met.L.Lane.each c.args.block.now) in
    next_step zs c.loop-number.number-index c.loop-number.count c.from-count.result within
    (c.from-count.ensures ∙ byte_of c.is_one.result
    ∙ ap (λ b. cond b 1 0)
    (c.is_one.ensures
    ∙ ap is_one
    (number_told g.L.Lane.value g.L.Lane.numbers g.met.L.Lane.each c.args.block.now c.loop-number.number-index c.number-item.result c.wide.result fits c.loop-number-test.true c.number-item.is c.wide.ensures.value)))
    c.loop-number.invariant
