use Rattle.std.proofs.Common.{refl, ◌≡◌, ◌-◌, ◌++◌, List, ℕ, Ok, map, length, get_or, sym, ap, ◌∙◌, arith}
use Rattle.std.proofs.lemmas.List.{length-map}
use Rattle.std.proofs.lemmas.Result.{err_from_is_err_and}
use Rattle.apl_arrays.specs.declared.cell.Cell.TheVariants.{Num}
use Rattle.apl_arrays.specs.Axes.{without}
use Rattle.apl_arrays.specs.Cells.{Arr}
use Rattle.apl_arrays.specs.declared.numbers.NumberVec.{NumberVec}
use Rattle.apl_arrays.specs.Numbers.{kept_values}
use Rattle.apl_arrays.specs.Checks.{limited}
use Rattle.apl_arrays.specs.Index.{size_of, indices}
use Rattle.apl_arrays.specs.Results.{ok_map}
use Rattle.apl_arrays.proofs.Exits.{answers_err}
use Rattle.apl_arrays.proofs.Order.{length-indices}
use Rattle.apl_scalar.specs.Extension.{numbers_in}
use Rattle.apl_folds.specs.Folds.{folded}
use Rattle.apl_operators.specs.Products.{last_axis, length_or_one, joined_item, joined_length, met_items, all_folded, inner_product}
use Rattle.apl_operators.proofs.Folding.{length-folded}
use Rattle.apl_operators.proofs.Others.{length-without, inner_in_shape}
use Rattle.apl_operators.proofs.inner_product.inner.Goals as goal

pub joined_shape-shape-requires-clause-a : goal.joined_shape-shape-requires-clause-a
joined_shape-shape-requires-clause-a g c =
    rw (c.without_last-left.ensures.others, c.as_slice.ensures.value, c.shape-a_shape.ensures.value) (omega (arith, length-without (length c.view-a.result.shape - 1) c.view-a.result.shape, c.shape-a_shape.ensures.array.few_axes))

pub joined_shape-shape-requires-clause-b : goal.joined_shape-shape-requires-clause-b
joined_shape-shape-requires-clause-b g c =
    rw (c.without_first-right.ensures.others, c.as_slice-2.ensures.value, c.shape-b_shape.ensures.value) (omega (arith, length-without 0 c.view-b.result.shape, c.shape-b_shape.ensures.array.few_axes))

pub returns-in_err-values-clause-value : goal.returns-in_err-values-clause-value
returns-in_err-values-clause-value g c =
    let p = err_from_is_err_and c.from_residual-in_err-values.result c.from_residual-in_err-values.ensures.1 in
    let shape_a : c.as_slice.result.now ≡ c.view-a.result.shape = c.as_slice.ensures.value ∙ c.shape-a_shape.ensures.value in
    let shape_b : c.as_slice-2.result.now ≡ c.view-b.result.shape = c.as_slice-2.ensures.value ∙ c.shape-b_shape.ensures.value in
    let others_a : c.without_last-left.result.0.now ≡ without (last_axis c.view-a.result) c.view-a.result.shape = c.without_last-left.ensures.others ∙ ap (λ (s : List ℕ). without (length s - 1) s) shape_a in
    let others_b : c.without_first-right.result.0.now ≡ without 0 c.view-b.result.shape = c.without_first-right.ensures.others ∙ ap (λ (s : List ℕ). without 0 s) shape_b in
    let left : c.without_last-left.result.1 ≡ length_or_one (last_axis c.view-a.result) c.view-a.result = c.without_last-left.ensures.last ∙ ap (λ (s : List ℕ). get_or s (length s - 1) 1) shape_a in
    let right : c.without_first-right.result.1 ≡ length_or_one 0 c.view-b.result = c.without_first-right.ensures.first ∙ ap (λ (s : List ℕ). get_or s 0 1) shape_b in
    let made : c.as_slice-3.result.now ≡ without (last_axis c.view-a.result) c.view-a.result.shape ++ without 0 c.view-b.result.shape =
    c.as_slice-3.ensures.value ∙ c.joined_shape-shape.ensures ∙ ap (λ (s : List ℕ). s ++ c.without_first-right.result.0.now) others_a ∙ ap (λ (s : List ℕ). without (last_axis c.view-a.result) c.view-a.result.shape ++ s) others_b in
    let joined_is : joined_length (length_or_one (last_axis c.view-a.result) c.view-a.result) (length_or_one 0 c.view-b.result) ≡ Ok c.in_ok-length.length = sym (rw (left, right) at c.in_ok-length.ensures) in
    let fits : limited c.as_slice-3.result.now ≡ Ok c.as_slice-3.result.now = c.in_ok-within_limits.ensures in
    rw (p.1, p.2)
    (answers_err {C = NumberVec} {D = Arr} kept_values (λ r. r)
    (all_folded c.args.outer_function (met_items c.args.inner_function (joined_item (last_axis c.view-a.result) c.view-a.result) (joined_item 0 c.view-b.result) (last_axis c.view-a.result) c.in_ok-length.length)
    (indices (without (last_axis c.view-a.result) c.view-a.result.shape ++ without 0 c.view-b.result.shape)))
    (inner_product c.args.outer_function c.args.inner_function (g.A.Cells.array c.args.a.now) (g.B.Cells.array c.args.b.now)) c.in_err-values.field-0.0
    (λ e h. ap (λ (x : Arr). inner_product c.args.outer_function c.args.inner_function x (g.B.Cells.array c.args.b.now)) (sym c.view-a.ensures.value)
    ∙ ap (λ (y : Arr). inner_product c.args.outer_function c.args.inner_function c.view-a.result y) (sym c.view-b.ensures.value)
    ∙ inner_in_shape c.args.outer_function c.args.inner_function c.view-a.result c.view-b.result c.in_ok-length.length (without (last_axis c.view-a.result) c.view-a.result.shape ++ without 0 c.view-b.result.shape) refl joined_is (rw made at fits)
    ∙ ap (ok_map (numbers_in (without (last_axis c.view-a.result) c.view-a.result.shape ++ without 0 c.view-b.result.shape))) h)
    c.in_err-values.ensures)

pub from_shape-requires : goal.from_shape-requires
from_shape-requires g c =
    let shape_a : c.as_slice.result.now ≡ c.view-a.result.shape = c.as_slice.ensures.value ∙ c.shape-a_shape.ensures.value in
    let shape_b : c.as_slice-2.result.now ≡ c.view-b.result.shape = c.as_slice-2.ensures.value ∙ c.shape-b_shape.ensures.value in
    let others_a : c.without_last-left.result.0.now ≡ without (last_axis c.view-a.result) c.view-a.result.shape = c.without_last-left.ensures.others ∙ ap (λ (s : List ℕ). without (length s - 1) s) shape_a in
    let others_b : c.without_first-right.result.0.now ≡ without 0 c.view-b.result.shape = c.without_first-right.ensures.others ∙ ap (λ (s : List ℕ). without 0 s) shape_b in
    let made : c.as_slice-4.result.now ≡ without (last_axis c.view-a.result) c.view-a.result.shape ++ without 0 c.view-b.result.shape =
    c.as_slice-4.ensures.value ∙ c.joined_shape-shape.ensures ∙ ap (λ (s : List ℕ). s ++ c.without_first-right.result.0.now) others_a ∙ ap (λ (s : List ℕ). without (last_axis c.view-a.result) c.view-a.result.shape ++ s) others_b in
    length-map (kept_values c.in_ok-values.values) Num ∙ length-folded (λ row. folded c.args.outer_function (map Num row)) (met_items c.args.inner_function (joined_item (last_axis c.view-a.result) c.view-a.result) (joined_item 0 c.view-b.result) (last_axis c.view-a.result) c.in_ok-length.length)
    (indices (without (last_axis c.view-a.result) c.view-a.result.shape ++ without 0 c.view-b.result.shape)) (kept_values c.in_ok-values.values) c.in_ok-values.ensures
    ∙ length-indices (without (last_axis c.view-a.result) c.view-a.result.shape ++ without 0 c.view-b.result.shape) ∙ ap size_of (sym made)
