use Rattle.std.proofs.Common.{◌≡◌, ◌∙◌, arith, sym, ap, true, drop}
use Rattle.apl_symbols.specs.Short.{packed, are_digits}
use Rattle.apl_symbols.proofs.Shorts.{none_of_long, short_of_digits, fails_here, digits_here, packed_here, fits}
use Rattle.apl_symbols.proofs.name.short_of.Goals as goal

pub returns-then-text-gt-MOST_SHORT : goal.returns-then-text-gt-MOST_SHORT
returns-then-text-gt-MOST_SHORT c = none_of_long c.args.text.now (omega arith)

pub returns-then-not-is_digit : goal.returns-then-not-is_digit
returns-then-not-is_digit c =
    fails_here c.args.text.now c.loop-at.at c.index-text-at.result c.code-code.result c.loop-at.short (omega arith) c.loop-at.invariant.0 c.index-text-at.is c.code-code.ensures.value (sym c.is_digit.ensures ∙ c.if-not-is_digit.true)

pub overflow_mul-short : goal.overflow_mul-short
overflow_mul-short c =
    let all = fits c.args.text.now c.loop-at.at c.loop-at.short c.code-code.result (omega arith) c.loop-at.invariant.1 c.loop-at.invariant.2 c.loop-at.invariant.3 (sym c.is_digit.ensures ∙ c.if-not-is_digit.false) in
    omega arith

pub overflow_add-short : goal.overflow_add-short
overflow_add-short c =
    let all = fits c.args.text.now c.loop-at.at c.loop-at.short c.code-code.result (omega arith) c.loop-at.invariant.1 c.loop-at.invariant.2 c.loop-at.invariant.3 (sym c.is_digit.ensures ∙ c.if-not-is_digit.false) in
    omega arith

pub loop-at-preserved : goal.loop-at-preserved
loop-at-preserved c = (
  omega arith,
  c.loop-at.invariant.1,
  digits_here c.args.text.now c.loop-at.at c.index-text-at.result c.code-code.result c.loop-at.short (omega arith) c.loop-at.invariant.0 c.index-text-at.is c.code-code.ensures.value (sym c.is_digit.ensures ∙ c.if-not-is_digit.false) c.loop-at.invariant.2,
  packed_here c.args.text.now c.loop-at.at c.index-text-at.result c.code-code.result c.loop-at.short (omega arith) c.loop-at.invariant.0 c.index-text-at.is c.code-code.ensures.value c.loop-at.invariant.3,
)

pub returns : goal.returns
returns c =
    let first : c.loop-at.at ≡ 0 = omega arith in
    let digits : are_digits c.args.text.now ≡ true = sym (ap (λ n. are_digits (drop n c.args.text.now)) first) ∙ c.loop-at.invariant.2 in
    c.loop-at.invariant.3 ∙ ap (λ n. packed (drop n c.args.text.now)) first ∙ short_of_digits c.args.text.now c.loop-at.invariant.1 digits
