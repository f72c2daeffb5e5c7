use Rattle.apl_faults.specs.declared.fault.Fault.{Fault}
use Rattle.std.proofs.Common.{◌≡◌, ◌++◌, ℤ, List, length, Result, Ok, Vec, Global, ap, sym, ◌∙◌}
use Rattle.std.proofs.lemmas.List.{length-map}
use Rattle.std.proofs.lemmas.Result.{err_from_is_err_and}
use Rattle.apl_arrays.specs.declared.cell.Cell.TheVariants.{Num}
use Rattle.apl_arrays.specs.Cells.{Arr, Numbers}
use Rattle.apl_arrays.specs.Numbers.{kept_values, values}
use Rattle.apl_arrays.specs.Results.{all_ok, ok_map}
use Rattle.apl_arrays.proofs.Exits.{answers_err}
use Rattle.apl_arrays.proofs.InTurn.{length-all_ok}
use Rattle.apl_scalar.specs.Functions.{in_range}
use Rattle.apl_search.specs.Encoded.{digits_by}
use Rattle.apl_search.proofs.Encodings.{small, filled, encode_limit, encode_ok, read}
use Rattle.apl_search.proofs.Shapes.{limits}
use Rattle.apl_search.proofs.encoding.encode.Goals as goal

pub returns-in_err-within_limits-clause-value : goal.returns-in_err-within_limits-clause-value
returns-in_err-within_limits-clause-value c =
    let joined : c.as_slice-shape.result.now ≡ c.args.a.now.shape ++ c.args.b.now.shape = cc in
    let p = err_from_is_err_and c.from_residual-in_err-within_limits.result c.from_residual-in_err-within_limits.ensures.1 in
    rw (p.1, p.2)
    (encode_limit c.args.a.now c.args.b.now (values c.in_ok-bases.bases) (values c.in_ok-bases.numbers) c.as_slice-shape.result.now c.in_err-within_limits.field-0.0 c.in_ok-bases.ensures joined c.in_err-within_limits.ensures)

pub digits_of-requires : goal.digits_of-requires
digits_of-requires c =
    let joined : c.as_slice-shape.result.now ≡ c.args.a.now.shape ++ c.args.b.now.shape = cc in
    small c.args.a.now c.args.b.now c.as_slice.result.now c.as_slice-2.result.now c.as_slice-shape.result.now c.as_slice-shape.result.now (read c.args.a.now c.args.b.now _ _ _ _ c.in_ok-bases.ensures (c.as_slice.ensures ∙ c.in_ok-wide_bases.ensures) (c.as_slice-2.ensures ∙ c.in_ok-wide_numbers.ensures))
    c.shape.ensures.array.full c.shape-2.ensures.array.full joined c.in_ok-within_limits.ensures

pub returns-in_err-digits-clause-value : goal.returns-in_err-digits-clause-value
returns-in_err-digits-clause-value c =
    let joined : c.as_slice-shape.result.now ≡ c.args.a.now.shape ++ c.args.b.now.shape = cc in
    let made : List ℤ → Arr = λ digits. record { shape = c.as_slice-shape.result.now; items = Numbers digits } in
    let p = err_from_is_err_and c.from_residual-in_err-digits.result c.from_residual-in_err-digits.ensures.1 in
    rw (p.1, p.2)
    (answers_err (λ (v : Vec ℤ Global). v.items) (λ (r : Arr). r) (all_ok in_range (digits_by c.as_slice.result.now c.as_slice-2.result.now)) _ c.in_err-digits.field-0.0
    (λ e h. encode_ok c.args.a.now c.args.b.now c.as_slice.result.now c.as_slice-2.result.now c.as_slice-shape.result.now (read c.args.a.now c.args.b.now _ _ _ _ c.in_ok-bases.ensures (c.as_slice.ensures ∙ c.in_ok-wide_bases.ensures) (c.as_slice-2.ensures ∙ c.in_ok-wide_numbers.ensures)) joined c.in_ok-within_limits.ensures
    ∙ ap (ok_map made) h)
    c.in_err-digits.ensures)

pub in_shape-requires-clause-full : goal.in_shape-requires-clause-full
in_shape-requires-clause-full c =
    let joined : c.as_slice-shape.result.now ≡ c.args.a.now.shape ++ c.args.b.now.shape = cc in
    length-map (kept_values c.in_ok-kept.kept) Num
    ∙ ap (λ (l : List ℤ). length l) c.in_ok-kept.ensures
    ∙ filled c.args.a.now c.args.b.now c.as_slice.result.now c.as_slice-2.result.now c.in_ok-digits.digits.items c.as_slice-shape.result.now (read c.args.a.now c.args.b.now _ _ _ _ c.in_ok-bases.ensures (c.as_slice.ensures ∙ c.in_ok-wide_bases.ensures) (c.as_slice-2.ensures ∙ c.in_ok-wide_numbers.ensures))
    c.shape.ensures.array.full c.shape-2.ensures.array.full joined
    (length-all_ok in_range (digits_by c.as_slice.result.now c.as_slice-2.result.now) c.in_ok-digits.digits.items c.in_ok-digits.ensures)

pub in_shape-requires-clause-few : goal.in_shape-requires-clause-few
in_shape-requires-clause-few c = (limits c.as_slice-shape.result.now _ c.in_ok-within_limits.ensures).0

pub in_shape-requires-clause-small : goal.in_shape-requires-clause-small
in_shape-requires-clause-small c = (limits c.as_slice-shape.result.now _ c.in_ok-within_limits.ensures).1

pub returns-clause-value : goal.returns-clause-value
returns-clause-value c =
    let joined : c.as_slice-shape.result.now ≡ c.args.a.now.shape ++ c.args.b.now.shape = cc in
    let made : List ℤ → Arr = λ digits. record { shape = c.as_slice-shape.result.now; items = Numbers digits } in
    encode_ok c.args.a.now c.args.b.now c.as_slice.result.now c.as_slice-2.result.now c.as_slice-shape.result.now (read c.args.a.now c.args.b.now _ _ _ _ c.in_ok-bases.ensures (c.as_slice.ensures ∙ c.in_ok-wide_bases.ensures) (c.as_slice-2.ensures ∙ c.in_ok-wide_numbers.ensures)) joined c.in_ok-within_limits.ensures
    ∙ ap (ok_map made) c.in_ok-digits.ensures
    ∙ ap (λ (l : List ℤ). let r : Result Arr Fault = Ok (made l) in r) (sym c.in_ok-kept.ensures)
    ∙ ap (λ (a : Arr). let r : Result Arr Fault = Ok a in r) (sym c.in_ok-in_shape.ensures.value)
