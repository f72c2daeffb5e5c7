use Rattle.std.proofs.Common.{FitsSigned, w64, rules, ◌∙◌, ◌<◌, ◌++◌, map, get_or, length, sym, ap, [], arith, pos}
use Rattle.std.proofs.lemmas.Int.{to_z-of_z}
use Rattle.std.proofs.lemmas.List.{length-map, get_or-map}
use Rattle.apl_arrays.specs.Numbers.{values}
use Rattle.apl_format.specs.Display.{number_text}
use Rattle.apl_format.proofs.Joined.{joined_none, joined_step, joined_all}
use Rattle.apl_format.proofs.row.push_numbers.Goals as goal

pub loop-place-init : goal.loop-place-init
loop-place-init c = joined_none 32 c.args.line.now.items

pub loop-place-preserved : goal.loop-place-preserved
loop-place-preserved c =
    let zs = values c.args.numbers in
    let i = c.loop-place.place in
    let fits : FitsSigned w64 c.at.result = search rules in
    let m = length-map zs number_text in
    let within : i < length (map number_text zs) = omega arith in
    joined_step 32 c.args.line.now.items (map number_text zs) i (number_text (get_or zs i (pos 0))) within
    (sym (get_or-map number_text zs i (pos 0) [] (omega arith))) c.loop-place.invariant c.in_ok-push_between.ensures
    (c.in_ok-push_number.ensures ∙ ap (λ z. c.push_between.new.line.items ++ number_text z) (to_z-of_z w64 c.at.result fits ∙ c.at.ensures))

pub returns : goal.returns
returns c =
    let m = length-map (values c.args.numbers) number_text in
    c.loop-place.invariant ∙ joined_all 32 c.args.line.now.items (map number_text (values c.args.numbers)) c.loop-place.place (omega arith)
