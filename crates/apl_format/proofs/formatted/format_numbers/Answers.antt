use Rattle.std.proofs.Common.{◌≡◌, ◌≤◌, ◌∙◌, ◌++◌, [], ◌∷◌, length, ap, rules}
use Rattle.std.proofs.lemmas.List.{nil_from_length}
use Rattle.apl_arrays.proofs.Exits.{answers_along}
use Rattle.apl_arrays.specs.Cells.{Numbers}
use Rattle.apl_arrays.specs.Numbers.{values}
use Rattle.apl_format.specs.Formatted.{in_limits, text_of}
use Rattle.apl_format.proofs.Texts.{text_of_scalar, text_of_vector, text_of_rows}
use Rattle.apl_format.proofs.formatted.format_numbers.Goals as goal

pub returns-in_default : goal.returns-in_default
returns-in_default c =
    let none : length c.args.shape.now ≡ 0 = search rules in
    answers_along (λ a. a) _ _ c.format_line.result (ap in_limits (text_of_scalar c.args.shape.now (values c.args.numbers) (nil_from_length c.args.shape.now none))) c.format_line.ensures

pub returns-then-is_empty : goal.returns-then-is_empty
returns-then-is_empty c =
    let none : length c.in-Some.outer.now ≡ 0 = search rules in
    let one = c.in-Some.ensures.cases.0 ∙ ap (λ s. s ++ c.in-Some.columns.now ∷ []) (nil_from_length c.in-Some.outer.now none) in
    answers_along (λ a. a) _ _ c.format_line-then-is_empty.result (ap in_limits (text_of_vector c.args.shape.now c.in-Some.columns.now (values c.args.numbers) one)) c.format_line-then-is_empty.ensures

pub returns : goal.returns
returns c =
    let some : 1 ≤ length c.in-Some.outer.now = search rules in
    let same = ap (λ s. text_of s (Numbers (values c.args.numbers))) c.in-Some.ensures.cases.0 ∙ text_of_rows c.in-Some.outer.now c.in-Some.columns.now (values c.args.numbers) some in
    answers_along (λ a. a) _ _ c.format_rows.result (ap in_limits same) c.format_rows.ensures
