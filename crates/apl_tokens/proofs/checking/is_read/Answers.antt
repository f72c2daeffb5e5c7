use Rattle.std.proofs.Common.{◌≡◌, ◌∙◌, true, false, [], ◌∷◌, length, None, refl, sym, ap, rules, arith}
use Rattle.std.proofs.lemmas.Bool.{eqb-true, eqb-false}
use Rattle.std.proofs.lemmas.List.{nil_from_length}
use Rattle.apl_tokens.specs.Tokens.{after_blanks}
use Rattle.apl_tokens.proofs.Accepting.{too_long, at_start, passes, word_is, ends, breaks, refuses, some_len, goes_on, not_empty}
use Rattle.apl_tokens.proofs.checking.is_read.Goals as goal

pub returns-then-text-gt-LONGEST : goal.returns-then-text-gt-LONGEST
returns-then-text-gt-LONGEST c = too_long c.args.text.now c.if-text-gt-LONGEST.true

pub loop-first-init : goal.loop-first-init
loop-first-init c = rw c.none-open.ensures (at_start c.args.text.now c.if-text-gt-LONGEST.false)

pub loop-first-preserved-then-eq : goal.loop-first-preserved-then-eq
loop-first-preserved-then-eq c =
    let parts : c.loop-first.rest.now ≡ c.in-Some.first.now ∷ c.in-Some.behind.now = c.in-Some.ensures.cases.0 in
    passes c.args.text.now c.loop-first.rest.now c.in-Some.behind.now c.in-Some.first.now c.loop-first.open c.loop-first.place c.loop-first.invariant parts (eqb-true _ 32 (rw c.default.ensures at (sym c.eq.ensures ∙ c.if-eq.true)))

pub returns-in_default-next_len : goal.returns-in_default-next_len
returns-in_default-next_len c =
    let parts : c.loop-first.rest.now ≡ c.in-Some.first.now ∷ c.in-Some.behind.now = c.in-Some.ensures.cases.0 in
    let word = word_is c.loop-first.rest.now c.in-Some.behind.now c.in-Some.first.now parts (eqb-false _ 32 (rw c.default.ensures at (sym c.eq.ensures ∙ c.if-eq.false))) in
    let none : c.next_len.result ≡ None = search rules in
    breaks c.args.text.now c.loop-first.rest.now c.loop-first.rest.now c.loop-first.open c.loop-first.place c.loop-first.invariant word (not_empty _ _ _ parts) (sym c.next_len.ensures ∙ none)

pub returns-then-not-turn : goal.returns-then-not-turn
returns-then-not-turn c =
    let parts : c.loop-first.rest.now ≡ c.in-Some.first.now ∷ c.in-Some.behind.now = c.in-Some.ensures.cases.0 in
    let word = word_is c.loop-first.rest.now c.in-Some.behind.now c.in-Some.first.now parts (eqb-false _ 32 (rw c.default.ensures at (sym c.eq.ensures ∙ c.if-eq.false))) in
    let refused : c.turn.result ≡ false = search rules in
    refuses c.args.text.now c.loop-first.rest.now c.loop-first.rest.now c.loop-first.open c.turn.new.self c.loop-first.place c.in-Some-next_len.measure c.turn.result c.loop-first.invariant word (not_empty _ _ _ parts) (sym c.next_len.ensures ∙ c.in-Some-next_len.is) c.turn.ensures refused

pub split_at-requires : goal.split_at-requires
split_at-requires c = (some_len c.loop-first.place c.loop-first.rest.now _ c.in-Some-next_len.measure refl (sym c.next_len.ensures ∙ c.in-Some-next_len.is)).0

pub loop-first-smaller : goal.loop-first-smaller
loop-first-smaller c =
    let len = some_len c.loop-first.place c.loop-first.rest.now _ c.in-Some-next_len.measure refl (sym c.next_len.ensures ∙ c.in-Some-next_len.is) in
    omega (arith, len, c.split_at.ensures.back_len)

pub loop-first-preserved : goal.loop-first-preserved
loop-first-preserved c =
    let parts : c.loop-first.rest.now ≡ c.in-Some.first.now ∷ c.in-Some.behind.now = c.in-Some.ensures.cases.0 in
    let word = word_is c.loop-first.rest.now c.in-Some.behind.now c.in-Some.first.now parts (eqb-false _ 32 (rw c.default.ensures at (sym c.eq.ensures ∙ c.if-eq.false))) in
    let taken : c.turn.result ≡ true = search rules in
    goes_on c.args.text.now c.loop-first.rest.now c.loop-first.rest.now c.split_at.result.1.now c.loop-first.open c.turn.new.self c.loop-first.place c.behind-place.result c.in-Some-next_len.measure c.turn.result c.loop-first.invariant word (not_empty _ _ _ parts) (sym c.next_len.ensures ∙ c.in-Some-next_len.is) c.turn.ensures taken c.behind-place.ensures c.split_at.ensures.back

pub returns : goal.returns
returns c =
    let none : c.loop-first.rest.now ≡ [] = nil_from_length _ c.in_default.ensures.cases in
    c.is_empty.ensures ∙ ends c.args.text.now c.loop-first.rest.now c.loop-first.rest.now c.loop-first.open c.loop-first.place c.loop-first.invariant (none ∙ ap after_blanks (sym none)) (ap length none)
