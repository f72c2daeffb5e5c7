use Rattle.std.proofs.Common.{ℕ, ◌+◌, ◌++◌, List, map, ap, ◌∙◌}
use Rattle.std.proofs.lemmas.List.{take_all}
use Rattle.apl_select.proofs.Lists.{map_next}
use Rattle.apl_select.proofs.reach.cross_row.Goals as goal

pub loop-place-preserved : goal.loop-place-preserved
loop-place-preserved c = map_next (λ k. c.args.first + k) c.args.out.now.items c.loop-place.out.items c.push.new.self.items c.args.places.now c.loop-place.place-index 0 c.loop-place-test.true c.loop-place.invariant c.in_ok-push.ensures.items

pub returns : goal.returns
returns c = c.loop-place.invariant ∙ ap (λ (z : List ℕ). c.args.out.now.items ++ map (λ k. c.args.first + k) z) (take_all c.loop-place.place-index c.args.places.now c.loop-place-test.false)
