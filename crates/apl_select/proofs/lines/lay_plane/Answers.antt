use Rattle.std.proofs.Common.{◌++◌, None, ap, sym, ◌∙◌}
use Rattle.std.proofs.lemmas.List.{take_all}
use Rattle.apl_select.specs.inside.Laying.{block_of, plane_of}
use Rattle.apl_select.specs.Lined.{item_or}
use Rattle.apl_select.proofs.Laying.{plane_single}
use Rattle.apl_select.proofs.Lists.{flat_next}
use Rattle.apl_select.proofs.lines.lay_plane.Goals as goal

pub returns-then-block-eq1 : goal.returns-then-block-eq1
returns-then-block-eq1 g c =
    c.in_ok-lay_line.ensures
    ∙ ap (λ z. c.args.out.now.items ++ z) (sym (plane_single (item_or c.args.fill c.args.raw.now) c.args.first c.args.places.now))
    ∙ ap (λ b. c.args.out.now.items ++ plane_of (item_or c.args.fill c.args.raw.now) c.args.first b c.args.places.now) (sym c.if-block-eq1.true)

pub loop-place-preserved : goal.loop-place-preserved
loop-place-preserved g c =
    flat_next (block_of (item_or c.args.fill c.args.raw.now) c.args.first c.args.block) c.args.out.now.items c.loop-place.out.items c.lay_block.new.out.items c.args.places.now c.loop-place.place-index None c.loop-place-test.true c.loop-place.invariant
    c.in_ok-lay_block.ensures

pub returns : goal.returns
returns g c = c.loop-place.invariant ∙ ap (λ z. c.args.out.now.items ++ plane_of (item_or c.args.fill c.args.raw.now) c.args.first c.args.block z) (take_all c.loop-place.place-index c.args.places.now c.loop-place-test.false)
