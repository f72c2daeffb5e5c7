use Rattle.std.proofs.Common.{get_or, ap, sym, ◌∙◌, add-one, arith}
use Rattle.apl_turns.proofs.Parts.{without_before, without_behind}
use Rattle.apl_turns.proofs.rotation.other_length.Goals as goal

pub returns-then-other-axis : goal.returns-then-other-axis
returns-then-other-axis c = sym (without_before c.args.shape.now c.args.axis c.args.other (omega arith))

pub returns-else-other-axis : goal.returns-else-other-axis
returns-else-other-axis c = ap (λ k. get_or c.args.shape.now k 0) (add-one c.args.other) ∙ sym (without_behind c.args.shape.now c.args.axis c.args.other (omega arith))
