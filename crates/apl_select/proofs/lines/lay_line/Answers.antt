use Rattle.std.proofs.Common.{◌+◌, ◌++◌, ◌∷◌, [], None, map, ap, ◌∙◌}
use Rattle.std.specs.Option.{option_map}
use Rattle.std.proofs.lemmas.List.{take_all}
use Rattle.apl_select.specs.Lined.{item_or}
use Rattle.apl_select.proofs.Lists.{map_next}
use Rattle.apl_select.proofs.lines.lay_line.Goals as goal

pub loop-place-preserved : goal.loop-place-preserved
loop-place-preserved g c =
    map_next (λ o. item_or c.args.fill c.args.raw.now (option_map (λ k. c.args.first + k) o)) c.args.out.now.items c.loop-place.out.items c.push.new.self.items c.args.places.now c.loop-place.place-index None c.loop-place-test.true c.loop-place.invariant
    (c.in_ok-push.ensures.items ∙ ap (λ x. c.loop-place.out.items ++ x ∷ []) c.element.ensures)

pub returns : goal.returns
returns g c = c.loop-place.invariant ∙ ap (λ z. c.args.out.now.items ++ map (λ o. item_or c.args.fill c.args.raw.now (option_map (λ k. c.args.first + k) o)) z) (take_all c.loop-place.place-index c.args.places.now c.loop-place-test.false)
