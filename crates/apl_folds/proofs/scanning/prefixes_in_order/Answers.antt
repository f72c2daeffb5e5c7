use Rattle.std.proofs.Common.{arith, ◌≡◌, ◌+◌, ℕ, List, length, get_or, take, drop, refl, ap, sym, ◌∙◌}
use Rattle.std.proofs.lemmas.List.{length-map, get_or-take}
use Rattle.apl_arrays.specs.declared.axis.Axis.{Axis}
use Rattle.apl_arrays.specs.declared.cell.Cell.TheVariants.{Num}
use Rattle.apl_arrays.specs.Cells.{Items, cells_of}
use Rattle.apl_arrays.specs.Index.{size_of, bound_of}
use Rattle.apl_arrays.specs.Numbers.{kept_values, values}
use Rattle.apl_arrays.proofs.Exits.{answers_along}
use Rattle.apl_arrays.proofs.Whole.{bound-drop}
use Rattle.apl_folds.proofs.ByPlaces.{apart, lines_whole, size_after, prefixes_by_places}
use Rattle.apl_folds.proofs.scanning.prefixes_in_order.Goals as goal

pub size-requires : goal.size-requires
size-requires c =
    let after : c.split_at.result.1.now ≡ drop (c.args.axis + 1) c.args.view.now.shape = c.split_at.ensures.back ∙ ap (drop (c.args.axis + 1)) (c.as_slice.ensures.value ∙ c.shape-shape.ensures.value) in
    omega (arith, bound-drop c.args.view.now.shape (c.args.axis + 1) 1000000 c.shape-shape.ensures.array.small, ap bound_of after)

pub prefixes-requires : goal.prefixes-requires
prefixes-requires c =
    let before : c.split_at.result.0.now ≡ take (c.args.axis + 1) c.args.view.now.shape = c.split_at.ensures.front ∙ ap (take (c.args.axis + 1)) (c.as_slice.ensures.value ∙ c.shape-shape.ensures.value) in
    let long : get_or c.split_at.result.0.now c.args.axis 0 ≡ get_or c.args.view.now.shape c.args.axis 0 =
    ap (λ (s : List ℕ). get_or s c.args.axis 0) before ∙ get_or-take (c.args.axis + 1) c.args.view.now.shape c.args.axis 0 (omega arith) in
    let after : c.split_at.result.1.now ≡ drop (c.args.axis + 1) c.args.view.now.shape = c.split_at.ensures.back ∙ ap (drop (c.args.axis + 1)) (c.as_slice.ensures.value ∙ c.shape-shape.ensures.value) in
    let up : c.size.result ≡ apart c.args.axis c.args.view.now.shape = c.size.ensures ∙ ap size_of after ∙ size_after c.args.view.now.shape c.args.axis in
    let count : length (values c.in-Nums.numbers) ≡ size_of c.args.view.now.shape =
    sym (length-map (values c.in-Nums.numbers) Num) ∙ ap (λ (i : Items). length (cells_of i)) (c.in-Nums.ensures ∙ c.in_ok-elements.ensures) ∙ c.shape-shape.ensures.array.full in
    lines_whole c.args.view.now.shape c.args.axis (values c.in-Nums.numbers) (record { length = get_or c.split_at.result.0.now c.args.axis 0; up = c.size.result; down = 0 }) c.requires.axis c.requires.some count
    c.shape-shape.ensures.array.small long up refl

pub returns : goal.returns
returns c =
    let before : c.split_at.result.0.now ≡ take (c.args.axis + 1) c.args.view.now.shape = c.split_at.ensures.front ∙ ap (take (c.args.axis + 1)) (c.as_slice.ensures.value ∙ c.shape-shape.ensures.value) in
    let long : get_or c.split_at.result.0.now c.args.axis 0 ≡ get_or c.args.view.now.shape c.args.axis 0 =
    ap (λ (s : List ℕ). get_or s c.args.axis 0) before ∙ get_or-take (c.args.axis + 1) c.args.view.now.shape c.args.axis 0 (omega arith) in
    let after : c.split_at.result.1.now ≡ drop (c.args.axis + 1) c.args.view.now.shape = c.split_at.ensures.back ∙ ap (drop (c.args.axis + 1)) (c.as_slice.ensures.value ∙ c.shape-shape.ensures.value) in
    let up : c.size.result ≡ apart c.args.axis c.args.view.now.shape = c.size.ensures ∙ ap size_of after ∙ size_after c.args.view.now.shape c.args.axis in
    let inner : Axis = record { length = get_or c.split_at.result.0.now c.args.axis 0; up = c.size.result; down = 0 } in
    answers_along kept_values _ _ c.prefixes.result
    (prefixes_by_places c.args.function (values c.in-Nums.numbers) c.args.view.now c.args.axis inner c.requires.axis (sym (c.in-Nums.ensures ∙ c.in_ok-elements.ensures)) c.shape-shape.ensures.array.full
    (ap (λ (n : ℕ). record { length = n; up = c.size.result; down = 0 }) long ∙ ap (λ (u : ℕ). record { length = get_or c.args.view.now.shape c.args.axis 0; up = u; down = 0 }) up))
    c.prefixes.ensures
