use Rattle.std.proofs.Common.{length, ap, sym, ◌∙◌, arith}
use Rattle.apl_select.proofs.SinglePlace.{others_pick_none, picks_if_placed}
use Rattle.apl_select.proofs.slots.place_picked.Goals as goal

pub returns-clause-place : goal.returns-clause-place
returns-clause-place c =
    picks_if_placed c.args.array.now c.args.origin c.args.slots.now c.shape-shape.result.now c.place_named.result (omega (arith, ap length c.shape-shape.ensures.value)) c.shape-shape.ensures.value
    c.place_named.ensures

pub returns-then-slots-shape-clause-place : goal.returns-then-slots-shape-clause-place
returns-then-slots-shape-clause-place c = others_pick_none c.args.array.now c.args.origin c.args.slots.now (λ e. c.if-slots-shape.true (e ∙ sym (ap length c.shape-shape.ensures.value)))
