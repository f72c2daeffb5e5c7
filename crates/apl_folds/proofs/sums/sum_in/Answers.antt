use Rattle.std.proofs.Common.{rules, length, to_z, of_z, sym, ◌∙◌, arith, w64}
use Rattle.std.proofs.lemmas.Int.{to_z-of_z}
use mir.Val.{SFits}
use Rattle.apl_folds.proofs.InRooms.{room_more}
use Rattle.apl_scalar.proofs.OfLanes.{as_many, number_of_item}
use Rattle.apl_folds.proofs.sums.sum_in.Goals as goal

pub loop-number-preserved : goal.loop-number-preserved
loop-number-preserved g c =
    let value = g.L.Lane.value in
    let numbers = g.L.Lane.numbers in
    let each = g.met.L.Lane.each in
    let i = c.loop-number.number-index in
    let within = c.loop-number-test.true in
    let fits : SFits w64 c.wide.result = search rules in
    room_more g.M.Lane.width (numbers c.args.numbers.now) (length c.args.numbers.now) i (g.M.Lane.value c.loop-number.sum) (g.M.Lane.value c.plus-sum.result) (to_z w64 (of_z w64 c.wide.result)) c.requires
    (omega (arith, as_many value numbers each c.args.numbers.now)) (omega (arith, as_many value numbers each c.args.numbers.now))
    (number_of_item value numbers each c.args.numbers.now i c.number-item.result within c.number-item.is ∙ sym (to_z-of_z w64 c.wide.result fits ∙ c.wide.ensures.value))
    c.loop-number.invariant c.plus-sum.ensures
