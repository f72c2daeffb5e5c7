use Rattle.std.proofs.Common.{ap, ◌∙◌}
use Rattle.apl_translate.specs.Lines.{Line}
use Rattle.apl_parts.specs.Taken.{classes_of}
use Rattle.apl_parts.proofs.Lines.{rest_is}
use Rattle.apl_parts.proofs.standing.rest_part.Goals as goal

pub returns : goal.returns
returns c =
    let frame = c.frame-frame.ensures in
    let classes = c.in_ok-classes.ensures ∙ ap classes_of c.items.ensures.value ∙ ap (λ (line : Line). classes_of line.items) c.bound.ensures in
    rest_is c.args.line.now c.new.result c.in_ok-classes.classes.items c.frame-frame.result.done c.in_ok-operands.operands.items frame.stands c.new.ensures classes frame.done (c.in_ok-operands.ensures ∙ frame.operands)
