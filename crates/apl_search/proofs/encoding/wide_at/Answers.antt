use Rattle.std.proofs.Common.{get_or, pos, rules, arith, FitsSigned, w64}
use Rattle.std.proofs.lemmas.Int.{ints}
use Rattle.apl_search.proofs.encoding.wide_at.Goals as goal

pub returns-clause-near : goal.returns-clause-near
returns-clause-near c =
    let fits : FitsSigned w64 (get_or c.args.numbers.now c.args.place (pos 0)) = search rules in
    record { low = omega (arith, ints); high = omega (arith, ints) }
