use Rattle.std.proofs.Common.{ℤ, List, length, ◌<◌, arith, sym, ◌∙◌}
use Rattle.apl_folds.proofs.ByPlaces.{prefix_fault}
use Rattle.apl_scalar.proofs.OfLanes.{as_many}
use Rattle.apl_folds.proofs.prefixes.fold_rest.Goals as goal

pub returns-in-Err-clause-prefixes : goal.returns-in-Err-clause-prefixes
returns-in-Err-clause-prefixes g c =
    let zs : List ℤ = g.L.Lane.numbers c.args.numbers.now in
    let within : c.loop-at.at < length zs = omega (arith, as_many g.L.Lane.value g.L.Lane.numbers g.met.L.Lane.each c.args.numbers.now) in
    prefix_fault g.F.Scalar.meaning zs c.args.axis c.loop-at.at c.loop-at.out c.in-Err.fault c.loop-at.invariant.prefixes within (sym c.prefix.ensures ∙ c.in-Err.is)
