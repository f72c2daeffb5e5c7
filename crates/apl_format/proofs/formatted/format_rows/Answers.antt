use Rattle.std.proofs.Common.{◌≡◌, ◌∙◌, ◌*◌, ◌≤◌, length, Err, sym, ap, arith}
use Rattle.std.proofs.lemmas.Result.{err_from_is_err_and}
use Rattle.apl_arrays.specs.Cells.{Numbers}
use Rattle.apl_arrays.specs.Numbers.{values}
use Rattle.apl_arrays.proofs.Exits.{answers_along}
use Rattle.apl_arrays.proofs.Places.{size_le_bound}
use Rattle.apl_format.specs.Display.{rows, widths}
use Rattle.apl_format.specs.Formatted.{line_width}
use Rattle.apl_format.proofs.Limits.{size_more, outer_within, product_fits, rows_over_width, rows_over, made, rows_made, rows_full}
use Rattle.apl_format.proofs.formatted.format_rows.Goals as goal

pub size-count-requires : goal.size-count-requires
size-count-requires c = outer_within c.args.outer.now c.args.columns c.requires.small

pub number_widths-requires : goal.number_widths-requires
number_widths-requires c =
    let whole = c.requires.full ∙ size_more c.args.outer.now c.args.columns ∙ ap (λ n. n * c.args.columns) (sym c.size-count.ensures) in
    omega arith

pub returns-in_err-width : goal.returns-in_err-width
returns-in_err-width c =
    let zs = values c.args.numbers in
    let made = c.as_slice.ensures.value ∙ c.in_ok-widths.ensures.value ∙ ap (λ k. widths c.args.columns (rows k c.args.columns (Numbers zs))) c.size-count.ensures in
    let p = err_from_is_err_and c.from_residual-in_err-width.result c.from_residual-in_err-width.ensures.1 in
    rw (p.1, p.2) (rows_over_width c.args.outer.now c.args.columns zs c.as_slice.result.now made c.in_err-width.ensures.over ∙ ap Err (sym c.in_err-width.ensures.limit))

pub overflow_mul-count : goal.overflow_mul-count
overflow_mul-count c =
    let within = outer_within c.args.outer.now c.args.columns c.requires.small in
    let few : c.size-count.result ≤ 1000000 = omega (arith, size_le_bound c.args.outer.now, c.size-count.ensures) in
    let fits = product_fits c.size-count.result c.in_ok-width.width few c.in_ok-width.ensures.small in
    omega arith

pub returns-then-count-width-gt-MAX_ELEMENTS : goal.returns-then-count-width-gt-MAX_ELEMENTS
returns-then-count-width-gt-MAX_ELEMENTS c =
    let zs = values c.args.numbers in
    let made = c.as_slice.ensures.value ∙ c.in_ok-widths.ensures.value ∙ ap (λ k. widths c.args.columns (rows k c.args.columns (Numbers zs))) c.size-count.ensures in
    rows_over c.args.outer.now c.args.columns zs c.size-count.result c.in_ok-width.width c.size-count.ensures (c.in_ok-width.ensures.sum ∙ ap line_width made) c.if-count-width-gt-MAX_ELEMENTS.true

pub push_rows-requires : goal.push_rows-requires
push_rows-requires c =
    let whole = c.requires.full ∙ size_more c.args.outer.now c.args.columns ∙ ap (λ n. n * c.args.columns) (sym c.size-count.ensures) in
    let wide : length c.as_slice-2.result.now ≡ c.args.columns = ap length c.as_slice-2.ensures.value ∙ c.in_ok-widths.ensures.wide in
    let same : c.size-count.result * length c.as_slice-2.result.now ≡ c.size-count.result * c.args.columns = ap (λ n. c.size-count.result * n) wide in
    omega arith

pub in_shape-requires-clause-full : goal.in_shape-requires-clause-full
in_shape-requires-clause-full c =
    rows_full c.args.outer.now c.args.columns (values c.args.numbers)
    (made c.args.outer.now c.args.columns (values c.args.numbers) c.size-count.ensures c.in_ok-widths.ensures.value c.in_ok-widths.ensures.wide c.as_slice.ensures.value c.in_ok-width.ensures.sum
    c.as_slice-2.ensures.value c.in_ok-characters.ensures.items c.in_ok-push_rows.ensures)

pub returns : goal.returns
returns c =
    answers_along (λ a. a) _ _ c.in_shape.result
    (rows_made c.args.outer.now c.args.columns (values c.args.numbers)
    (made c.args.outer.now c.args.columns (values c.args.numbers) c.size-count.ensures c.in_ok-widths.ensures.value c.in_ok-widths.ensures.wide c.as_slice.ensures.value c.in_ok-width.ensures.sum
    c.as_slice-2.ensures.value c.in_ok-characters.ensures.items c.in_ok-push_rows.ensures))
    c.in_shape.ensures
