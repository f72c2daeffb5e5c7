use Rattle.std.proofs.Common.{◌≡◌, ◌≤◌, ◌∙◌, ap, sym, length, pos, subst, arith, ℤ, List}
use Rattle.std.specs.List.{list_any}
use Rattle.std.specs.Ordering.{int_eq}
use Rattle.std.proofs.lemmas.Result.{IfOk-weaker}
use Rattle.apl_arrays.specs.Numbers.{values}
use Rattle.apl_machine_state.specs.Watching.{lines_among}
use Rattle.apl_phrases.specs.inside.Marks.{marked_lines, marks_of}
use Rattle.apl_phrases.proofs.Marks.{lines_of, length-marked_lines}
use Rattle.apl_phrases.proofs.lines_among.lines_among.Goals as goal

pub returns-clause-value : goal.returns-clause-value
returns-clause-value c =
    let lines = c.args.definition.now.lines in
    let all : marked_lines 1 c.as_slice-2.result.now ≡ lines_among (values c.args.numbers) c.args.definition.now =
    ap (marked_lines 1) (c.as_slice-2.ensures.value ∙ c.in_ok-marks.ensures.value ∙ ap (λ (zs : List ℤ). marks_of zs 1 lines) (c.as_slice.ensures ∙ c.in_ok-numbers.ensures))
    ∙ lines_of (λ n. list_any (λ z. int_eq z (pos n)) (values c.args.numbers)) 1 lines in
    IfOk-weaker c.marked_lines.result _ _ (λ lines e. e ∙ all) c.marked_lines.ensures

pub returns-clause-few : goal.returns-clause-few
returns-clause-few c =
    let few : length (marked_lines 1 c.as_slice-2.result.now) ≤ 999 = omega (arith, length-marked_lines 1 c.as_slice-2.result.now, ap length c.as_slice-2.ensures.value, c.in_ok-marks.ensures.few) in
    IfOk-weaker c.marked_lines.result (λ lines. lines.items ≡ marked_lines 1 c.as_slice-2.result.now) _ (λ lines e. subst (λ ns. length ns ≤ 999) (sym e) few) c.marked_lines.ensures
