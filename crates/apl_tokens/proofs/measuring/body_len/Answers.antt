use Rattle.std.proofs.Common.{◌≡◌, sym, true, false, length, rules, arith}
use Rattle.apl_tokens.specs.Characters.{class_of, is_quote}
use Rattle.apl_tokens.proofs.Lengths.{plain, opens, doubles, closes, ends}
use Rattle.apl_tokens.proofs.measuring.body_len.Goals as goal

pub returns-then-not-is_quote-clause-is : goal.returns-then-not-is_quote-clause-is
returns-then-not-is_quote-clause-is c =
    let q : is_quote (class_of c.index-rest-i.result) ≡ false = search rules in
    sym (closes c.args.rest.now c.loop-i.i c.index-rest-i.result _ c.loop-i-test.true c.index-rest-i.is q (rw c.if-quoted.true at c.loop-i.invariant))

pub loop-i-preserved-then-quoted : goal.loop-i-preserved-then-quoted
loop-i-preserved-then-quoted c =
    let q : is_quote (class_of c.index-rest-i.result) ≡ true = search rules in
    doubles c.args.rest.now c.loop-i.i c.index-rest-i.result _ c.loop-i-test.true c.index-rest-i.is q (rw c.if-quoted.true at c.loop-i.invariant)

pub loop-i-preserved-then-is_quote : goal.loop-i-preserved-then-is_quote
loop-i-preserved-then-is_quote c =
    let q : is_quote (class_of c.index-rest-i.result) ≡ true = search rules in
    opens c.args.rest.now c.loop-i.i c.index-rest-i.result _ c.loop-i-test.true c.index-rest-i.is q (rw c.if-quoted.false at c.loop-i.invariant)

pub loop-i-preserved : goal.loop-i-preserved
loop-i-preserved c =
    let q : is_quote (class_of c.index-rest-i.result) ≡ false = search rules in
    rw c.if-quoted.false (plain c.args.rest.now c.loop-i.i c.index-rest-i.result _ c.loop-i-test.true c.index-rest-i.is q (rw c.if-quoted.false at c.loop-i.invariant))

pub returns-then-quoted-2-clause-is : goal.returns-then-quoted-2-clause-is
returns-then-quoted-2-clause-is c =
    let at_end : c.loop-i.i ≡ length c.args.rest.now = omega arith in
    rw (← at_end) (sym (ends c.args.rest.now c.loop-i.i true _ at_end (rw c.if-quoted-2.true at c.loop-i.invariant)))

pub returns-else-quoted-2-clause-is : goal.returns-else-quoted-2-clause-is
returns-else-quoted-2-clause-is c =
    let at_end : c.loop-i.i ≡ length c.args.rest.now = omega arith in
    sym (ends c.args.rest.now c.loop-i.i false _ at_end (rw c.if-quoted-2.false at c.loop-i.invariant))
