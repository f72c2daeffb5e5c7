use Rattle.std.proofs.Common.{rules, ◌≡◌, ◌∙◌, ◌++◌, [], ◌∷◌, length, sym, ap, subst, IfOk}
use Rattle.std.proofs.lemmas.List.{nil_from_length, append_assoc}
use Rattle.apl_arrays.specs.Index.{size_of}
use Rattle.apl_format.specs.Display.{vector_line, matrix_lines}
use Rattle.apl_format.proofs.Shapes.{display_scalar, display_vector, display_planes}
use Rattle.apl_format.proofs.lines.display.Goals as goal

pub returns-in_default : goal.returns-in_default
returns-in_default c =
    let none : length c.shape.result.now ≡ 0 = search rules in
    let same = ap (λ items. vector_line items ∷ []) c.items-items.ensures.value
    ∙ sym (display_scalar c.args.array.now (sym c.shape.ensures.value ∙ nil_from_length c.shape.result.now none)) in
    subst (λ made. IfOk c.one_line.result (λ lines. lines.items ≡ made)) same c.one_line.ensures

pub returns-in_default-split_last : goal.returns-in_default-split_last
returns-in_default-split_last c =
    let none : length c.in-Some.axes.now ≡ 0 = search rules in
    let one = sym c.shape.ensures.value ∙ c.in-Some.ensures.cases.0 ∙ ap (λ s. s ++ c.in-Some.columns.now ∷ []) (nil_from_length c.in-Some.axes.now none) in
    let same = ap (λ items. vector_line items ∷ []) c.items-items.ensures.value ∙ sym (display_vector c.args.array.now c.in-Some.columns.now one) in
    subst (λ made. IfOk c.one_line-in_default-split_last.result (λ lines. lines.items ≡ made)) same c.one_line-in_default-split_last.ensures

pub returns : goal.returns
returns c =
    let outer = c.in-Some-split_last.outer.now in
    let height = c.in-Some-split_last.height.now in
    let columns = c.in-Some.columns.now in
    let two = sym c.shape.ensures.value ∙ c.in-Some.ensures.cases.0 ∙ ap (λ s. s ++ columns ∷ []) c.in-Some-split_last.ensures.cases.0 ∙ append_assoc outer (height ∷ []) (columns ∷ []) in
    let same = ap (λ items. matrix_lines (size_of outer) height columns items) c.items-items.ensures.value ∙ sym (display_planes c.args.array.now outer height columns two) in
    subst (λ made. IfOk c.matrix_lines.result (λ lines. lines.items ≡ made)) same c.matrix_lines.ensures
