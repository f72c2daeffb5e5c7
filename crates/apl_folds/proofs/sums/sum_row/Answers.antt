use Rattle.std.proofs.Common.{◌≡◌, ℤ, length, Ok, to_z, of_z, w32, w64, ap, sym, ◌∙◌, rules, FitsSigned, refl}
use Rattle.std.proofs.lemmas.Int.{to_z-of_z}
use Rattle.apl_arrays.specs.Widths.{more_than_w32}
use Rattle.apl_folds.specs.Rooms.{HaveRoom}
use Rattle.apl_folds.specs.inside.Sums.{total}
use Rattle.apl_folds.proofs.InRooms.{room_fold}
use Rattle.apl_scalar.proofs.OfLanes.{as_many}
use Rattle.apl_folds.proofs.sums.sum_row.Goals as goal

pub returns-then-has_room : goal.returns-then-has_room
returns-then-has_room g c =
    let zs = g.L.Lane.numbers c.args.numbers.now in
    let size = as_many g.L.Lane.value g.L.Lane.numbers g.met.L.Lane.each c.args.numbers.now in
    let count = length c.args.numbers.now in
    let room : HaveRoom w32 zs count = record { bound = c.most-bound.result; within = c.most-bound.ensures; fits = c.if-has_room.ensures refl } in
    let fits : FitsSigned w32 c.sum_in.result = search rules in
    let wide : FitsSigned w64 c.wide.result = search rules in
    let same : to_z w64 (of_z w64 c.wide.result) ≡ total zs = to_z-of_z w64 c.wide.result wide ∙ c.wide.ensures.value ∙ to_z-of_z w32 c.sum_in.result fits ∙ c.sum_in.ensures in
    ap (λ (z : ℤ). Ok z) same ∙ sym (room_fold w32 zs count more_than_w32 room size c.requires)

pub returns-then-has_room-2 : goal.returns-then-has_room-2
returns-then-has_room-2 g c =
    let zs = g.L.Lane.numbers c.args.numbers.now in
    let size = as_many g.L.Lane.value g.L.Lane.numbers g.met.L.Lane.each c.args.numbers.now in
    let count = length c.args.numbers.now in
    let room : HaveRoom w64 zs count = record { bound = c.most-bound.result; within = c.most-bound.ensures; fits = c.if-has_room-2.ensures refl } in
    let fits : FitsSigned w64 c.sum_in-then-has_room-2.result = search rules in
    ap (λ (z : ℤ). Ok z) (to_z-of_z w64 c.sum_in-then-has_room-2.result fits ∙ c.sum_in-then-has_room-2.ensures) ∙ sym (room_fold w64 zs count (λ z h. h) room size c.requires)
