use Rattle.std.proofs.Common.{◌≡◌, pos, get_or, FitsSigned, w64, to_z, of_z, ap, sym, ◌∙◌, rules, arith, ◌<◌, length}
use Rattle.std.proofs.lemmas.Int.{to_z-of_z}
use Rattle.apl_select.proofs.Lanes.{length-numbers, number_told}
use Rattle.apl_select.proofs.Masks.{step_at_one, step_at_zero}
use Rattle.apl_select.proofs.compression.step.Goals as goal

pub returns-then-wide-eq0 : goal.returns-then-wide-eq0
returns-then-wide-eq0 g c =
    let fits : FitsSigned w64 c.wide.result = search rules in
    let zs = g.L.Lane.numbers c.args.bits.now in
    let told : to_z w64 (of_z w64 c.wide.result) ≡ get_or zs c.args.k (pos 0) =
    number_told g.L.Lane.value g.L.Lane.numbers g.met.L.Lane.each c.args.bits.now c.args.k c.index-bits-k.result c.wide.result fits c.requires.within c.index-bits-k.is c.wide.ensures.value in
    step_at_zero zs c.args.k (sym told ∙ ap (to_z w64) c.if-wide-eq0.true)

pub returns-else-wide-eq0 : goal.returns-else-wide-eq0
returns-else-wide-eq0 g c =
    let fits : FitsSigned w64 c.wide.result = search rules in
    let zs = g.L.Lane.numbers c.args.bits.now in
    let within : c.args.k < length zs = omega (arith, c.requires.within, length-numbers g.L.Lane.value g.L.Lane.numbers g.met.L.Lane.each c.args.bits.now) in
    let told : to_z w64 (of_z w64 c.wide.result) ≡ get_or zs c.args.k (pos 0) =
    number_told g.L.Lane.value g.L.Lane.numbers g.met.L.Lane.each c.args.bits.now c.args.k c.index-bits-k.result c.wide.result fits c.requires.within c.index-bits-k.is c.wide.ensures.value in
    step_at_one zs c.args.k c.requires.bits within (λ e. c.if-wide-eq0.false (ap (of_z w64) (sym (to_z-of_z w64 c.wide.result fits) ∙ told ∙ e)))
