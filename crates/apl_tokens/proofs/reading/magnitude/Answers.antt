use Rattle.std.proofs.Common.{◌+◌, arith}
use Rattle.std.proofs.lemmas.Str.Parse.{digits_value-take-le}
use Rattle.apl_tokens.proofs.Digits.{digit_at, value-next}
use Rattle.apl_tokens.proofs.reading.magnitude.Goals as goal

pub returns-then-m-clause-none : goal.returns-then-m-clause-none
returns-then-m-clause-none c =
    let more = value-next c.args.digits.now c.loop-c.c-index 0 c.requires c.loop-c-test.true in
    omega (arith, more, digits_value-take-le 10 c.args.digits.now (c.loop-c.c-index + 1) (omega arith), c.loop-c.invariant.value)

pub overflow_sub-m : goal.overflow_sub-m
overflow_sub-m c = omega (arith, digit_at c.args.digits.now c.loop-c.c-index c.c-item.result c.requires c.loop-c-test.true, c.c-item.is, c.code.ensures.value)

pub returns-then-m-gt-LIMIT-clause-none : goal.returns-then-m-gt-LIMIT-clause-none
returns-then-m-gt-LIMIT-clause-none c =
    let more = value-next c.args.digits.now c.loop-c.c-index c.c-item.result c.requires c.loop-c-test.true in
    omega (arith, more, digits_value-take-le 10 c.args.digits.now (c.loop-c.c-index + 1) (omega arith), c.loop-c.invariant.value, c.c-item.is, c.code.ensures.value)

pub loop-c-preserved : goal.loop-c-preserved
loop-c-preserved c =
    let more = value-next c.args.digits.now c.loop-c.c-index c.c-item.result c.requires c.loop-c-test.true in
    record { value = omega (arith, more, c.loop-c.invariant.value, c.c-item.is, c.code.ensures.value); low = omega arith }
