use Rattle.std.proofs.Common.{◌+◌, ◌<◌, ◌^◌, ℤ, pos, get_or, FitsSigned, w8, w32, w64, ap, ◌∙◌, rules, arith}
use Rattle.std.proofs.lemmas.Int.{to_z-of_z}
use Rattle.std.specs.Ordering.{int_eq}
use Rattle.std.specs.List.{position_or_len}
use Rattle.apl_search.proofs.Slots.{slot_is, place_of, place_fits}
use Rattle.apl_search.proofs.Mapped.{write_next, write_whole}
use Rattle.apl_search.proofs.bytes.byte_places.Goals as goal

pub counted-requires : goal.counted-requires
counted-requires c =
    let y = get_or c.args.sought.now c.loop-k.k (pos 0) in
    let fits : FitsSigned w8 y = search rules in
    let wide : FitsSigned w64 c.from.result = search rules in
    let slot = slot_is c.slot-slot.result y c.from.result fits wide c.from.ensures c.slot-slot.ensures in
    let place = place_of c.enter.new.firsts c.args.among.now c.slot-slot.result y c.enter.ensures c.enter.auto.firsts fits slot in
    let few : c.args.first + get_or c.enter.new.firsts c.slot-slot.result 0 < 2 ^ 31 = place_fits c.enter.new.firsts c.args.among.now c.slot-slot.result c.args.first y place c.requires.small in
    few

pub loop-k-preserved : goal.loop-k-preserved
loop-k-preserved c =
    let y = get_or c.args.sought.now c.loop-k.k (pos 0) in
    let fits : FitsSigned w8 y = search rules in
    let wide : FitsSigned w64 c.from.result = search rules in
    let slot = slot_is c.slot-slot.result y c.from.result fits wide c.from.ensures c.slot-slot.ensures in
    let place = place_of c.enter.new.firsts c.args.among.now c.slot-slot.result y c.enter.ensures c.enter.auto.firsts fits slot in
    let small : FitsSigned w32 c.counted.result = search rules in
    write_next (λ (y : ℤ). pos (c.args.first + position_or_len (int_eq y) c.args.among.now)) c.args.sought.now c.loop-k.k (pos 0) _ c.loop-k.places (omega arith) (omega arith)
    c.loop-k.invariant (to_z-of_z w32 c.counted.result small ∙ c.counted.ensures ∙ ap (λ n. pos (c.args.first + n)) place)

pub returns : goal.returns
returns c =
    write_whole (λ (y : ℤ). pos (c.args.first + position_or_len (int_eq y) c.args.among.now)) c.args.sought.now c.loop-k.k c.loop-k.places (omega arith) (omega arith) c.loop-k.invariant
