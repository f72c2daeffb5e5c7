use Rattle.std.proofs.Common.{◌≡◌, ◌∙◌, ap, length, replicate, false, pos, get_or, w64, rules}
use mir.Val.{SFits}
use Rattle.std.proofs.lemmas.Int.{to_z-of_z}
use Rattle.apl_phrases.specs.inside.Marks.{marked}
use Rattle.apl_phrases.proofs.Marks.{none_of, one_more_of, written}
use Rattle.apl_phrases.proofs.lines_among.marks.Goals as goal

pub loop-number-init : goal.loop-number-init
loop-number-init c =
    let all : c.in_ok-marks.marks.items ≡ replicate (length c.args.definition.now.lines) false = search rules in
    all ∙ none_of 1 c.args.definition.now.lines

pub loop-number-preserved : goal.loop-number-preserved
loop-number-preserved c =
    let fits : SFits w64 (get_or c.args.numbers.now c.loop-number.number-index (pos 0)) = search rules in
    let new : c.mark.new.marks ≡ marked (get_or c.args.numbers.now c.loop-number.number-index (pos 0)) 1 c.loop-number.marks.items =
    c.mark.ensures ∙ ap (λ z. marked z 1 c.as_mut_slice.result.now) (to_z-of_z w64 (get_or c.args.numbers.now c.loop-number.number-index (pos 0)) fits) ∙ ap (marked (get_or c.args.numbers.now c.loop-number.number-index (pos 0)) 1) c.as_mut_slice.ensures.value in
    written _ c.loop-number.marks.items c.mark.new.marks c.loop-number.marks.len new c.loop-number.marks.ok.0
    ∙ ap (marked (get_or c.args.numbers.now c.loop-number.number-index (pos 0)) 1) c.loop-number.invariant
    ∙ one_more_of c.args.numbers.now c.loop-number.number-index (pos 0) 1 c.args.definition.now.lines c.loop-number-test.true
