use Rattle.std.proofs.Common.{◌∙◌, sym, arith}
use Rattle.apl_reshape.proofs.Cuts.{part_none, part_more}
use Rattle.apl_reshape.proofs.parts.part_of.Goals as goal

pub loop-axis-init : goal.loop-axis-init
loop-axis-init c = c.whole-view.ensures.value ∙ sym (part_none c.args.b.now c.whole-view.ensures.array.full)

pub loop-axis-preserved : goal.loop-axis-preserved
loop-axis-preserved c =
    part_more c.args.b.now c.loop-axis.view c.cut-view.result c.args.froms.now c.args.lens.now c.loop-axis.axis c.loop-axis-test.true (omega (arith, c.requires.froms, c.requires.lens)) (omega (arith, c.requires.froms))
    (c.requires.within c.loop-axis.axis (omega (arith, c.requires.froms))) c.loop-axis.invariant c.cut-view.ensures
