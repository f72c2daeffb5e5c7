use Rattle.std.proofs.Common.{◌*◌, ◌<◌, ◌≤◌, ◌+◌, arith}
use Rattle.apl_scalar.proofs.Inverses.{quotient_below, quotient_close, rest_same, rest_less}
use Rattle.apl_scalar.proofs.reciprocals.rest_by.Goals as goal

pub overflow_mul-rest : goal.overflow_mul-rest
overflow_mul-rest c =
    let l : c.high_half.result * c.args.divisor ≤ c.args.number = rw c.high_half.ensures (quotient_below c.args.number c.args.inverse c.args.divisor c.requires.inverse.0) in
    omega arith

pub overflow_sub-rest : goal.overflow_sub-rest
overflow_sub-rest c = rw c.high_half.ensures (quotient_below c.args.number c.args.inverse c.args.divisor c.requires.inverse.0)

pub returns-then-divisor-rest : goal.returns-then-divisor-rest
returns-then-divisor-rest c =
    let h : c.args.number < c.high_half.result * c.args.divisor + c.args.divisor + c.args.divisor =
    rw c.high_half.ensures (quotient_close c.args.number c.args.inverse c.args.divisor c.ranges.number.fits c.requires.divisor.0 c.requires.inverse.1) in
    let l : c.high_half.result * c.args.divisor ≤ c.args.number = rw c.high_half.ensures (quotient_below c.args.number c.args.inverse c.args.divisor c.requires.inverse.0) in
    rest_less c.args.number c.high_half.result c.args.divisor l c.if-divisor-rest.true h

pub returns-else-divisor-rest : goal.returns-else-divisor-rest
returns-else-divisor-rest c =
    let l : c.high_half.result * c.args.divisor ≤ c.args.number = rw c.high_half.ensures (quotient_below c.args.number c.args.inverse c.args.divisor c.requires.inverse.0) in
    rest_same c.args.number c.high_half.result c.args.divisor l (omega (arith, c.if-divisor-rest.false))
