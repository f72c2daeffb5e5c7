use Rattle.std.proofs.Common.{◌≡◌, ◌+◌, ◌+ℤ◌, ◌<◌, pos, length, get_or, sym, ◌∙◌, arith}
use Rattle.std.specs.Ordering.{int_eq}
use Rattle.std.specs.List.{position_or_len}
use Rattle.std.proofs.lemmas.List.{get_or_read}
use Rattle.apl_arrays.specs.Numbers.{values}
use Rattle.apl_search.proofs.Firsts.{within}
use Rattle.std.proofs.lemmas.Int.{ints}
use Rattle.apl_search.proofs.Tables.{outside}
use Rattle.apl_search.proofs.table.Table.first_place.Goals as goal
use Rattle.apl_search.proofs.table.Table.first_place.Goals.{then-number-self-via-then-number-self, then-number-self-via-else-number-self+then-self-number}

pub returns-then-number-self-clause-value : goal.returns-then-number-self-clause-value
returns-then-number-self-clause-value c =
    c.len.ensures
    ∙ sym (outside c.args.self.now.span c.args.number (values c.args.numbers) c.requires.within (λ w.
    elim c.then-number-self.branch [ then-number-self-via-then-number-self v ↦ omega (arith, ints) | then-number-self-via-else-number-self+then-self-number v ↦ omega (arith, ints) ]))

pub returns-clause-within : goal.returns-clause-within
returns-clause-within c =
    let slots = c.args.self.now.firsts in
    let there : c.slot.result < length slots.items = omega (arith, ints) in
    let read : c.index.result.now ≡ get_or slots.items c.slot.result 0 = get_or_read slots.items _ _ there c.index.ensures 0 in
    let place : get_or slots.items c.slot.result 0 ≡ 0 + position_or_len (int_eq (c.args.self.now.span.smallest +ℤ pos c.slot.result)) (values c.args.numbers) = c.requires.slots c.slot.result there in
    omega (arith, within (int_eq (c.args.self.now.span.smallest +ℤ pos c.slot.result)) (values c.args.numbers))
