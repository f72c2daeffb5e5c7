use Rattle.std.proofs.Common.{◌≡◌, [], true, false, rules}
use Rattle.apl_tokens.specs.Brackets.{same_bracket}
use Rattle.apl_tokens.proofs.Pairs.{passes, opens, alone, differs, closes, at_end, last_first}
use Rattle.apl_tokens.proofs.brackets.unmatched.Goals as goal

pub loop-token-preserved-in-Neither : goal.loop-token-preserved-in-Neither
loop-token-preserved-in-Neither c = passes c.loop-token.awaited.items c.args.tokens.now c.loop-token.token-index c.token-item.result _ c.loop-token-test.true c.token-item.is c.in-Neither.ensures c.loop-token.invariant

pub loop-token-preserved-in-Opens : goal.loop-token-preserved-in-Opens
loop-token-preserved-in-Opens c = opens c.loop-token.awaited.items c.push.new.self.items c.args.tokens.now c.loop-token.token-index c.in-Opens.bracket c.token-item.result _ c.loop-token-test.true c.token-item.is c.in-Opens.ensures c.in_ok-push-in-Opens.ensures.items c.loop-token.invariant

pub returns-in-None : goal.returns-in-None
returns-in-None c =
    let none : c.loop-token.awaited.items ≡ [] = search rules in
    alone c.loop-token.awaited.items c.args.tokens.now c.loop-token.token-index c.in-Closes.bracket c.token-item.result _ c.loop-token-test.true c.token-item.is c.in-Closes.ensures none c.loop-token.invariant

pub returns-then-not-is : goal.returns-then-not-is
returns-then-not-is c =
    let ne : same_bracket c.in-Closes.bracket c.in-Some.innermost ≡ false = search rules in
    differs c.loop-token.awaited.items c.pop.new.self.items c.args.tokens.now c.loop-token.token-index c.in-Closes.bracket c.in-Some.innermost _ c.token-item.result _ c.loop-token-test.true c.token-item.is c.in-Closes.ensures c.in-Some.ensures.items ne c.loop-token.invariant

pub loop-token-preserved : goal.loop-token-preserved
loop-token-preserved c =
    let same : same_bracket c.in-Closes.bracket c.in-Some.innermost ≡ true = search rules in
    closes c.loop-token.awaited.items c.pop.new.self.items c.args.tokens.now c.loop-token.token-index c.in-Closes.bracket c.in-Some.innermost _ c.token-item.result _ c.loop-token-test.true c.token-item.is c.in-Closes.ensures c.in-Some.ensures.items same c.loop-token.invariant

pub returns-in-None-pop : goal.returns-in-None-pop
returns-in-None-pop c =
    let none : c.loop-token.awaited.items ≡ [] = search rules in
    rw none at (at_end _ c.args.tokens.now c.loop-token.token-index _ c.loop-token-test.false c.loop-token.invariant)

pub returns-in-Some-pop : goal.returns-in-Some-pop
returns-in-Some-pop c =
    let stack = last_first c.loop-token.awaited.items c.pop-2.new.self.items (c.in-Some-pop.field-0-0, c.in-Some-pop.column) c.in-Some-pop.ensures.items in
    rw stack at (at_end _ c.args.tokens.now c.loop-token.token-index _ c.loop-token-test.false c.loop-token.invariant)
