use Rattle.std.proofs.Common.{rules, pos, get_or, w64}
use Rattle.std.proofs.lemmas.Int.{to_z-of_z}
use mir.Val.{SFits}
use Rattle.apl_operators.proofs.SmallProducts.{within_larger}
use Rattle.apl_operators.proofs.bounds.largest.Goals as goal

pub returns : goal.returns
returns g c = λ k h.
    let low : SFits w64 c.range_of-least.result.0 = search rules in
    let high : SFits w64 c.range_of-least.result.1 = search rules in
    within_larger (get_or (g.L.Lane.numbers c.args.items.now) k (pos 0)) c.range_of-least.result.0 c.range_of-least.result.1 c.unsigned_abs.result c.unsigned_abs-2.result c.max.result
    (simp (to_z-of_z, low) at c.unsigned_abs.ensures.value) (simp (to_z-of_z, high) at c.unsigned_abs-2.ensures.value) c.max.ensures (c.range_of-least.ensures k (pos 0) h)
