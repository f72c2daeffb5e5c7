use Rattle.std.proofs.Common.{FitsSigned, w64, ap, sym, ◌∙◌, rules, arith}
use Rattle.apl_select.specs.Compress.{is_bit}
use Rattle.apl_select.proofs.Lanes.{length-numbers, number_told}
use Rattle.apl_select.proofs.Masks.{bits_end, bits_step}
use Rattle.apl_select.proofs.bits.all_are_bits.Goals as goal

pub loop-number-preserved : goal.loop-number-preserved
loop-number-preserved g c =
    let fits : FitsSigned w64 c.wide.result = search rules in
    let zs = g.L.Lane.numbers c.args.numbers.now in
    bits_step c.loop-number.all c.is_bit-all.result zs c.loop-number.number-index (omega (arith, c.loop-number-test.true, length-numbers g.L.Lane.value g.L.Lane.numbers g.met.L.Lane.each c.args.numbers.now))
    (c.is_bit-all.ensures
    ∙ ap is_bit
    (number_told g.L.Lane.value g.L.Lane.numbers g.met.L.Lane.each c.args.numbers.now c.loop-number.number-index c.number-item.result c.wide.result fits c.loop-number-test.true c.number-item.is c.wide.ensures.value))
    ∙ c.loop-number.invariant

pub returns : goal.returns
returns g c =
    sym (bits_end c.loop-number.all (g.L.Lane.numbers c.args.numbers.now) c.loop-number.number-index (omega (arith, c.loop-number-test.false, length-numbers g.L.Lane.value g.L.Lane.numbers g.met.L.Lane.each c.args.numbers.now)))
    ∙ c.loop-number.invariant
