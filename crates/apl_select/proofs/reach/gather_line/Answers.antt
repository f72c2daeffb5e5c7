use Rattle.std.proofs.Common.{◌+◌, ◌<◌, ◌++◌, ◌∷◌, [], map, length, get_or, arith, ap, ◌∙◌}
use Rattle.std.proofs.lemmas.List.{get_or_default, take_all}
use Rattle.apl_select.proofs.Lists.{all_at, map_next}
use Rattle.apl_select.proofs.reach.gather_line.Goals as goal

pub overflow_add-first : goal.overflow_add-first
overflow_add-first g c = omega (arith, all_at (λ q. q < length c.args.raw.now) (λ k. c.args.first + k) c.args.places.now c.loop-place.place-index 0 c.loop-place-test.true c.requires.within)

pub offset_bounds-raw-first : goal.offset_bounds-raw-first
offset_bounds-raw-first g c = omega (arith, all_at (λ q. q < length c.args.raw.now) (λ k. c.args.first + k) c.args.places.now c.loop-place.place-index 0 c.loop-place-test.true c.requires.within)

pub bounds-raw-first : goal.bounds-raw-first
bounds-raw-first g c = all_at (λ q. q < length c.args.raw.now) (λ k. c.args.first + k) c.args.places.now c.loop-place.place-index 0 c.loop-place-test.true c.requires.within

pub loop-place-preserved : goal.loop-place-preserved
loop-place-preserved g c =
    let below : c.args.first + get_or c.args.places.now c.loop-place.place-index 0 < length c.args.raw.now =
    all_at (λ q. q < length c.args.raw.now) (λ k. c.args.first + k) c.args.places.now c.loop-place.place-index 0 c.loop-place-test.true c.requires.within in
    λ d. map_next (λ k. get_or c.args.raw.now (c.args.first + k) d) c.args.out.now.items c.loop-place.out.items c.push.new.self.items c.args.places.now c.loop-place.place-index 0 c.loop-place-test.true
    (c.loop-place.invariant d)
    (c.in_ok-push.ensures.items
    ∙ ap (λ x. c.loop-place.out.items ++ x ∷ []) (c.index-raw-first.is ∙ get_or_default c.args.raw.now (c.args.first + get_or c.args.places.now c.loop-place.place-index 0) c.index-raw-first.result d below))

pub returns : goal.returns
returns g c = λ d. c.loop-place.invariant d ∙ ap (λ z. c.args.out.now.items ++ map (λ k. get_or c.args.raw.now (c.args.first + k) d) z) (take_all c.loop-place.place-index c.args.places.now (omega arith))
