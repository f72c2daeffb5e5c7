use Rattle.std.proofs.Common.{sym, ◌∙◌, arith}
use Rattle.apl_arrays.specs.Axes.{without}
use Rattle.apl_turns.proofs.Parts.{length-without, same_step, same_end}
use Rattle.apl_turns.proofs.rotation.is_without.Goals as goal

pub loop-other-preserved : goal.loop-other-preserved
loop-other-preserved c =
    let n = length-without c.args.whole.now c.args.axis c.requires.axis in
    same_step c.args.shape.now (without c.args.axis c.args.whole.now) c.loop-other.other (omega arith) (omega (arith, n)) (omega (arith, c.other_length.ensures)) ∙ c.loop-other.invariant

pub returns : goal.returns
returns c =
    let n = length-without c.args.whole.now c.args.axis c.requires.axis in
    sym (same_end c.args.shape.now (without c.args.axis c.args.whole.now) c.loop-other.other (omega arith) (omega (arith, n))) ∙ c.loop-other.invariant
