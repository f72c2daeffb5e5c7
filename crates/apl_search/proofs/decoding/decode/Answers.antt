use Rattle.std.proofs.Common.{◌≡◌, ℕ, ℤ, List, length, Result, Ok, Vec, Global, ap, sym, ◌∙◌}
use Rattle.std.specs.List.{range_with_len}
use Rattle.std.proofs.lemmas.List.{length-map}
use Rattle.std.proofs.lemmas.List.FromFn.{length-range_with_len}
use Rattle.std.proofs.lemmas.Result.{err_from_is_err_and}
use Rattle.apl_faults.specs.declared.fault.Fault.{Fault}
use Rattle.apl_arrays.specs.declared.cell.Cell.TheVariants.{Num}
use Rattle.apl_arrays.specs.Index.{size_of}
use Rattle.apl_arrays.specs.Cells.{Arr, Items, Numbers, cells_of}
use Rattle.apl_arrays.specs.Results.{all_ok, ok_map}
use Rattle.apl_arrays.proofs.Exits.{answers_err}
use Rattle.apl_arrays.proofs.InTurn.{length-all_ok}
use Rattle.apl_search.specs.Decoded.{first_length, shape_behind}
use Rattle.apl_search.specs.inside.Flat.{value_by}
use Rattle.apl_search.proofs.Digits.{bases_there, digits_there, decode_ok, read}
use Rattle.apl_search.proofs.Shapes.{few_behind, small_behind}
use Rattle.apl_search.proofs.decoding.decode.Goals as goal

pub values_of-requires-clause-bases : goal.values_of-requires-clause-bases
values_of-requires-clause-bases c =
    bases_there c.args.a.now c.args.b.now c.as_slice.result.now c.as_slice-2.result.now c.in_ok-bases.count
    (read c.args.a.now c.args.b.now _ _ _ _ _ c.in_ok-bases.ensures (c.as_slice.ensures ∙ c.in_ok-wide_bases.ensures) (c.as_slice-2.ensures ∙ c.in_ok-wide_digits.ensures))

pub values_of-requires-clause-digits : goal.values_of-requires-clause-digits
values_of-requires-clause-digits c =
    let behind : c.behind-shape.result.now ≡ shape_behind c.args.b.now.shape = c.behind-shape.ensures ∙ ap shape_behind c.shape.ensures.value in
    digits_there c.args.a.now c.args.b.now c.as_slice.result.now c.as_slice-2.result.now c.in_ok-bases.count c.length_along.result c.size.result (read c.args.a.now c.args.b.now _ _ _ _ _ c.in_ok-bases.ensures (c.as_slice.ensures ∙ c.in_ok-wide_bases.ensures) (c.as_slice-2.ensures ∙ c.in_ok-wide_digits.ensures))
    (c.length_along.ensures ∙ ap first_length c.shape-2.ensures.value) (c.size.ensures ∙ ap size_of behind) c.shape.ensures.array.full

pub returns-in_err-values-clause-value : goal.returns-in_err-values-clause-value
returns-in_err-values-clause-value c =
    let behind : c.behind-shape.result.now ≡ shape_behind c.args.b.now.shape = c.behind-shape.ensures ∙ ap shape_behind c.shape.ensures.value in
    let f : ℕ → Result ℤ Fault = λ p. value_by c.as_slice.result.now c.as_slice-2.result.now c.length_along.result c.size.result p c.in_ok-bases.count in
    let made : List ℤ → Arr = λ values. record { shape = c.behind-shape.result.now; items = Numbers values } in
    let p = err_from_is_err_and c.from_residual-in_err-values.result c.from_residual-in_err-values.ensures.1 in
    rw (p.1, p.2)
    (answers_err (λ (v : Vec ℤ Global). v.items) (λ (r : Arr). r) (all_ok f (range_with_len 0 c.size.result)) _ c.in_err-values.field-0.0
    (λ e h. decode_ok c.args.a.now c.args.b.now c.as_slice.result.now c.as_slice-2.result.now c.in_ok-bases.count c.length_along.result c.size.result c.behind-shape.result.now (read c.args.a.now c.args.b.now _ _ _ _ _ c.in_ok-bases.ensures (c.as_slice.ensures ∙ c.in_ok-wide_bases.ensures) (c.as_slice-2.ensures ∙ c.in_ok-wide_digits.ensures))
    behind (c.length_along.ensures ∙ ap first_length c.shape-2.ensures.value) (c.size.ensures ∙ ap size_of behind)
    ∙ ap (ok_map made) h)
    c.in_err-values.ensures)

pub in_shape-requires-clause-full : goal.in_shape-requires-clause-full
in_shape-requires-clause-full c =
    let f : ℕ → Result ℤ Fault = λ p. value_by c.as_slice.result.now c.as_slice-2.result.now c.length_along.result c.size.result p c.in_ok-bases.count in
    ap (λ (t : Items). length (cells_of t)) c.wide-3.ensures
    ∙ length-map c.in_ok-values.values.items Num
    ∙ length-all_ok f (range_with_len 0 c.size.result) c.in_ok-values.values.items c.in_ok-values.ensures
    ∙ length-range_with_len 0 c.size.result ∙ c.size.ensures

pub in_shape-requires-clause-few : goal.in_shape-requires-clause-few
in_shape-requires-clause-few c =
    let behind : c.behind-shape.result.now ≡ shape_behind c.args.b.now.shape = c.behind-shape.ensures ∙ ap shape_behind c.shape.ensures.value in
    rw behind (few_behind c.args.b.now.shape c.shape.ensures.array.few_axes)

pub in_shape-requires-clause-small : goal.in_shape-requires-clause-small
in_shape-requires-clause-small c =
    let behind : c.behind-shape.result.now ≡ shape_behind c.args.b.now.shape = c.behind-shape.ensures ∙ ap shape_behind c.shape.ensures.value in
    rw behind (small_behind c.args.b.now.shape c.shape.ensures.array.small)

pub returns-clause-value : goal.returns-clause-value
returns-clause-value c =
    let behind : c.behind-shape.result.now ≡ shape_behind c.args.b.now.shape = c.behind-shape.ensures ∙ ap shape_behind c.shape.ensures.value in
    let made : List ℤ → Arr = λ values. record { shape = c.behind-shape.result.now; items = Numbers values } in
    decode_ok c.args.a.now c.args.b.now c.as_slice.result.now c.as_slice-2.result.now c.in_ok-bases.count c.length_along.result c.size.result c.behind-shape.result.now (read c.args.a.now c.args.b.now _ _ _ _ _ c.in_ok-bases.ensures (c.as_slice.ensures ∙ c.in_ok-wide_bases.ensures) (c.as_slice-2.ensures ∙ c.in_ok-wide_digits.ensures))
    behind (c.length_along.ensures ∙ ap first_length c.shape-2.ensures.value) (c.size.ensures ∙ ap size_of behind)
    ∙ ap (ok_map made) c.in_ok-values.ensures
    ∙ ap (λ (t : Items). let a : Arr = record { shape = c.behind-shape.result.now; items = t } in let r : Result Arr Fault = Ok a in r) (sym c.wide-3.ensures)
    ∙ ap (λ (a : Arr). let r : Result Arr Fault = Ok a in r) (sym c.in_ok-in_shape.ensures.value)
