use Rattle.std.proofs.Common.{FitsSigned, w64, rules, ◌≡◌, ◌∙◌, ◌<◌, ◌++◌, map, get_or, length, sym, ap, [], arith, pos}
use Rattle.std.specs.Simd.Lanes.{zip2}
use Rattle.std.proofs.lemmas.Int.{to_z-of_z}
use Rattle.std.proofs.lemmas.Simd.{length-zip2, get_or-zip2}
use Rattle.std.proofs.lemmas.List.{length-map, get_or-map}
use Rattle.apl_arrays.specs.Numbers.{values}
use Rattle.apl_format.specs.Display.{number_text, padded}
use Rattle.apl_format.proofs.Joined.{joined_none, joined_step, joined_all}
use Rattle.apl_format.proofs.row.push_aligned.Goals as goal

pub loop-place-init : goal.loop-place-init
loop-place-init c = joined_none 32 c.args.line.now.items

pub loop-place-preserved : goal.loop-place-preserved
loop-place-preserved c =
    let zs = values c.args.numbers in
    let ws = c.args.widths.now in
    let i = c.loop-place.place in
    let fits : FitsSigned w64 c.at.result = search rules in
    let m = length-map zs number_text in
    let t : length (zip2 padded ws (map number_text zs)) ≡ length ws = length-zip2 padded ws (map number_text zs) (omega arith) in
    let within : i < length (zip2 padded ws (map number_text zs)) = omega arith in
    let here = get_or-zip2 padded ws (map number_text zs) i 0 [] [] (omega arith) (omega arith) ∙ ap (padded (get_or ws i 0)) (get_or-map number_text zs i (pos 0) [] (omega arith)) in
    joined_step 32 c.args.line.now.items (zip2 padded ws (map number_text zs)) i (padded (get_or ws i 0) (number_text (get_or zs i (pos 0)))) within
    (sym here) c.loop-place.invariant c.in_ok-push_between.ensures
    (c.in_ok-push_padded.ensures ∙ ap (λ z. c.push_between.new.line.items ++ padded (get_or ws i 0) (number_text z)) (to_z-of_z w64 c.at.result fits ∙ c.at.ensures))

pub returns : goal.returns
returns c =
    let m = length-map (values c.args.numbers) number_text in
    let t : length (zip2 padded c.args.widths.now (map number_text (values c.args.numbers))) ≡ length c.args.widths.now =
    length-zip2 padded c.args.widths.now (map number_text (values c.args.numbers)) (omega arith) in
    c.loop-place.invariant ∙ joined_all 32 c.args.line.now.items (zip2 padded c.args.widths.now (map number_text (values c.args.numbers))) c.loop-place.place (omega arith)
