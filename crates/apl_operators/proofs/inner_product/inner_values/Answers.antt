use Rattle.std.proofs.Common.{◌≡◌, ◌≤◌, ◌-◌, List, ℕ, length, get_or, ap, ◌∙◌, arith}
use Rattle.std.proofs.lemmas.Nat.{mul-le}
use Rattle.apl_arrays.specs.Axes.{without}
use Rattle.apl_arrays.specs.Cells.{Items, cells_of}
use Rattle.apl_arrays.specs.Index.{size_of, bound_of}
use Rattle.apl_arrays.specs.Left.{listed}
use Rattle.apl_arrays.specs.Numbers.{kept_values}
use Rattle.apl_arrays.proofs.Exits.{answers_along}
use Rattle.apl_arrays.proofs.Places.{size_le_bound}
use Rattle.apl_operators.specs.declared.joint.Joint.{Joint}
use Rattle.apl_operators.proofs.Others.{bound_without, joins, by_meeting}
use Rattle.apl_operators.proofs.inner_product.inner_values.Goals as goal

pub size-requires : goal.size-requires
size-requires c =
    let shape_a : c.as_slice.result.now ≡ c.args.a.now.shape = c.as_slice.ensures.value ∙ c.shape-a_shape.ensures.value in
    rw (c.without_last-left.ensures.others, shape_a) (omega (arith, bound_without (length c.args.a.now.shape - 1) c.args.a.now.shape, c.shape-a_shape.ensures.array.small))

pub size-requires-2 : goal.size-requires-2
size-requires-2 c =
    let shape_b : c.as_slice-2.result.now ≡ c.args.b.now.shape = c.as_slice-2.ensures.value ∙ c.shape-b_shape.ensures.value in
    rw (c.without_first-right.ensures.others, shape_b) (omega (arith, bound_without 0 c.args.b.now.shape, c.shape-b_shape.ensures.array.small))

pub fold_elements-requires-clause-joint : goal.fold_elements-requires-clause-joint
fold_elements-requires-clause-joint c =
    let shape_a : c.as_slice.result.now ≡ c.args.a.now.shape = c.as_slice.ensures.value ∙ c.shape-a_shape.ensures.value in
    let shape_b : c.as_slice-2.result.now ≡ c.args.b.now.shape = c.as_slice-2.ensures.value ∙ c.shape-b_shape.ensures.value in
    joins c.args.a.now c.args.b.now (record { rows = c.size.result; columns = c.size-2.result; left = c.without_last-left.result.1; right = c.without_first-right.result.1; joined = c.args.joined })
    (length (cells_of (listed c.items.result))) (length (cells_of (listed c.items-2.result)))
    (c.size.ensures ∙ ap size_of (c.without_last-left.ensures.others ∙ ap (λ (s : List ℕ). without (length s - 1) s) shape_a))
    (c.size-2.ensures ∙ ap size_of (c.without_first-right.ensures.others ∙ ap (λ (s : List ℕ). without 0 s) shape_b))
    (c.without_last-left.ensures.last ∙ ap (λ (s : List ℕ). get_or s (length s - 1) 1) shape_a)
    (c.without_first-right.ensures.first ∙ ap (λ (s : List ℕ). get_or s 0 1) shape_b)
    (ap (λ (t : Items). length (cells_of t)) (c.items.ensures ∙ c.in_ok-a.ensures) ∙ c.shape-a_shape.ensures.array.full)
    (ap (λ (t : Items). length (cells_of t)) (c.items-2.ensures ∙ c.in_ok-b.ensures) ∙ c.shape-b_shape.ensures.array.full)
    c.requires

pub fold_elements-requires-clause-small : goal.fold_elements-requires-clause-small
fold_elements-requires-clause-small c =
    let shape_a : c.as_slice.result.now ≡ c.args.a.now.shape = c.as_slice.ensures.value ∙ c.shape-a_shape.ensures.value in
    let shape_b : c.as_slice-2.result.now ≡ c.args.b.now.shape = c.as_slice-2.ensures.value ∙ c.shape-b_shape.ensures.value in
    let bound_a : bound_of c.without_last-left.result.0.now ≤ 1000000 =
    rw (c.without_last-left.ensures.others, shape_a) (omega (arith, bound_without (length c.args.a.now.shape - 1) c.args.a.now.shape, c.shape-a_shape.ensures.array.small)) in
    let bound_b : bound_of c.without_first-right.result.0.now ≤ 1000000 =
    rw (c.without_first-right.ensures.others, shape_b) (omega (arith, bound_without 0 c.args.b.now.shape, c.shape-b_shape.ensures.array.small)) in
    let few_a : c.size.result ≤ 1000000 = rw c.size.ensures (omega (arith, size_le_bound c.without_last-left.result.0.now)) in
    let few_b : c.size-2.result ≤ 1000000 = rw c.size-2.ensures (omega (arith, size_le_bound c.without_first-right.result.0.now)) in
    omega (arith, mul-le c.size.result c.size-2.result 1000000 1000000 few_a few_b)

pub returns : goal.returns
returns c =
    let shape_a : c.as_slice.result.now ≡ c.args.a.now.shape = c.as_slice.ensures.value ∙ c.shape-a_shape.ensures.value in
    let shape_b : c.as_slice-2.result.now ≡ c.args.b.now.shape = c.as_slice-2.ensures.value ∙ c.shape-b_shape.ensures.value in
    let items_a : listed c.items.result ≡ c.args.a.now.items = c.items.ensures ∙ c.in_ok-a.ensures in
    let items_b : listed c.items-2.result ≡ c.args.b.now.items = c.items-2.ensures ∙ c.in_ok-b.ensures in
    let joint : Joint = record { rows = c.size.result; columns = c.size-2.result; left = c.without_last-left.result.1; right = c.without_first-right.result.1; joined = c.args.joined } in
    answers_along kept_values _ _ c.fold_elements.result
    (by_meeting c.args.outer_function c.args.inner_function c.args.a.now c.args.b.now joint
    (c.size.ensures ∙ ap size_of (c.without_last-left.ensures.others ∙ ap (λ (s : List ℕ). without (length s - 1) s) shape_a))
    (c.size-2.ensures ∙ ap size_of (c.without_first-right.ensures.others ∙ ap (λ (s : List ℕ). without 0 s) shape_b))
    (c.without_last-left.ensures.last ∙ ap (λ (s : List ℕ). get_or s (length s - 1) 1) shape_a)
    (c.without_first-right.ensures.first ∙ ap (λ (s : List ℕ). get_or s 0 1) shape_b))
    (rw (items_a, items_b) at c.fold_elements.ensures)
