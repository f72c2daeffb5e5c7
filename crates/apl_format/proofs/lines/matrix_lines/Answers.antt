use Rattle.std.proofs.Common.{◌≡◌, ◌*◌, ◌∙◌, [], length, map, sym, ap, subst, arith, mul_assoc}
use Rattle.apl_arrays.specs.Cells.{cells_of}
use Rattle.apl_arrays.specs.Index.{size_of}
use Rattle.apl_arrays.specs.Left.{listed}
use Rattle.apl_arrays.proofs.Places.{small_size}
use Rattle.apl_format.specs.Display.{matrix_lines, row_line, planes, joined}
use Rattle.apl_format.proofs.Rows.{matrix_none, matrix_by_widths}
use Rattle.apl_format.proofs.Sizes.{Fit, planes_fit, outer_fits, planes_size}
use Rattle.apl_format.proofs.lines.matrix_lines.Goals as goal

pub returns-then-height-eq0 : goal.returns-then-height-eq0
returns-then-height-eq0 c =
    c.new.ensures.items ∙ sym (matrix_none (size_of c.args.outer.now) c.args.height c.args.columns (listed c.args.items) c.if-height-eq0.true)

pub size-count-requires : goal.size-count-requires
size-count-requires c = outer_fits c.args.outer.now c.args.height c.args.columns c.requires.small

pub overflow_mul-count : goal.overflow_mul-count
overflow_mul-count c =
    let fit : Fit c.size-count.result c.args.height c.args.columns =
    subst (λ n. Fit n c.args.height c.args.columns) (sym c.size-count.ensures) (planes_fit c.args.outer.now c.args.height c.args.columns c.requires.small) in
    omega (arith, fit.few)

pub widths_of-requires : goal.widths_of-requires
widths_of-requires c =
    let whole : length (cells_of (listed c.args.items)) ≡ c.size-count.result * (c.args.height * c.args.columns) =
    c.requires.full ∙ planes_size c.args.outer.now c.args.height c.args.columns ∙ ap (λ n. n * (c.args.height * c.args.columns)) (sym c.size-count.ensures) in
    omega (arith, whole, mul_assoc c.size-count.result c.args.height c.args.columns)

pub plane_lines-requires-clause-within : goal.plane_lines-requires-clause-within
plane_lines-requires-clause-within c =
    let whole : length (cells_of (listed c.args.items)) ≡ c.size-count.result * (c.args.height * c.args.columns) =
    c.requires.full ∙ planes_size c.args.outer.now c.args.height c.args.columns ∙ ap (λ n. n * (c.args.height * c.args.columns)) (sym c.size-count.ensures) in
    omega (arith, whole)

pub plane_lines-requires-clause-few : goal.plane_lines-requires-clause-few
plane_lines-requires-clause-few c =
    let fit : Fit c.size-count.result c.args.height c.args.columns =
    subst (λ n. Fit n c.args.height c.args.columns) (sym c.size-count.ensures) (planes_fit c.args.outer.now c.args.height c.args.columns c.requires.small) in
    (fit.few, fit.plane, fit.planes)

pub plane_lines-requires-clause-small : goal.plane_lines-requires-clause-small
plane_lines-requires-clause-small c = small_size _ _ c.requires.full c.requires.small

pub returns : goal.returns
returns c =
    let n = c.size-count.result in
    let h = c.args.height in
    let k = c.args.columns in
    let items = listed c.args.items in
    c.in_ok-lines.ensures
    ∙ ap (λ ws. joined [] (map (map (row_line ws)) (planes n h k items))) c.as_slice.ensures.value
    ∙ matrix_by_widths n h k items c.in_ok-widths.widths.items c.if-height-eq0.false c.in_ok-widths.ensures.value
    ∙ ap (λ m. matrix_lines m h k items) c.size-count.ensures
