use Rattle.std.proofs.Common.{◌∙◌, sym}
use Rattle.apl_refusals.proofs.Lines.{text_at}
use Rattle.apl_refusals.proofs.same.is_same_line.Goals as goal

-- each line is its text, and the texts are the same
pub returns-in-Some-Some : goal.returns-in-Some-Some
returns-in-Some-Some c h =
    let one = text_at c.args.one.now.lines c.args.k c.in-Some-Some.text.now c.in-Some-Some.ensures.value in
    let other = text_at c.args.other.now.lines c.args.k c.in-Some-Some.other.now c.in-Some-Some.ensures'.value in
    one ∙ (c.are_same.ensures h ∙ sym other)
