use Rattle.std.proofs.Common.{◌<ℤ◌, pos, sym, arith}
use Rattle.std.proofs.lemmas.Int.{ints}
use Rattle.apl_scalar.proofs.Growth.{factorial_beyond}
use Rattle.apl_scalar.proofs.powers.FactorialScalar.apply.Goals as goal

pub returns-then-y-gt20 : goal.returns-then-y-gt20
returns-then-y-gt20 c =
    let beyond : pos 20 <ℤ c.args.y = grind (arith, ints) in
    sym (factorial_beyond c.args.y beyond)
