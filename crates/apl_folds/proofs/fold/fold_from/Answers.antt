use Rattle.std.proofs.Common.{rules, ◌<◌, ℤ, length, ap, sym, ◌∙◌, arith, w64}
use Rattle.std.proofs.lemmas.Int.{to_z-of_z}
use mir.Val.{SFits, to_z}
use Rattle.apl_scalar.proofs.OfLanes.{as_many}
use Rattle.apl_folds.proofs.Rights.{fold_stops}
use Rattle.apl_folds.proofs.fold.fold_from.Goals as goal

pub returns-in-Err : goal.returns-in-Err
returns-in-Err g c =
    let zs = g.L.Lane.numbers c.args.numbers.now in
    let all : ℤ = to_z w64 c.loop-k.all-bits in
    let fits : SFits w64 c.number_at.result = search rules in
    let within : c.loop-k.k < length zs = omega (arith, as_many g.L.Lane.value g.L.Lane.numbers g.met.L.Lane.each c.args.numbers.now) in
    sym (fold_stops g.F.Scalar.meaning zs c.loop-k.k all c.in-Err.fault c.loop-k-test.true within c.loop-k.invariant
    (ap (λ (x : ℤ). g.F.Scalar.meaning x all) (sym (to_z-of_z w64 c.number_at.result fits ∙ c.number_at.ensures)) ∙ sym c.apply.ensures ∙ c.in-Err.is))
