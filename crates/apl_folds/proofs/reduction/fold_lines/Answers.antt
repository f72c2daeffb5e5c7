use Rattle.std.proofs.Common.{arith, ◌≡◌, ℤ, List, ℕ, Vec, Global, length, refl, ap, sym, ◌∙◌}
use Rattle.std.proofs.lemmas.List.{length-map}
use Rattle.std.proofs.lemmas.Result.{err_from_is_err_and}
use Rattle.apl_arrays.specs.declared.cell.Cell.TheVariants.{Num}
use Rattle.apl_arrays.specs.Axes.{without}
use Rattle.apl_arrays.specs.Cells.{Arr, Items, Numbers, cells_of}
use Rattle.apl_arrays.specs.Index.{size_of, bound_of}
use Rattle.apl_arrays.specs.Ravels.{items_of}
use Rattle.apl_arrays.specs.Results.{ok_map}
use Rattle.apl_arrays.specs.Strides.{lengths}
use Rattle.apl_arrays.proofs.Exits.{answers_along, answers_err, ok_map_err}
use Rattle.apl_arrays.proofs.InTurn.{length-all_ok}
use Rattle.apl_arrays.proofs.Order.{length-indices}
use Rattle.apl_arrays.proofs.Steps.{length-lengths}
use Rattle.apl_scalar.specs.Extension.{numbers_in}
use Rattle.apl_folds.specs.Folds.{folds_along, folds_shaped}
use Rattle.apl_folds.specs.Lines.{shown_by}
use Rattle.apl_folds.proofs.Shapes.{bound-without, same_array, shows_one}
use Rattle.apl_folds.proofs.Taken.{parted}
use Rattle.apl_folds.proofs.reduction.fold_lines.Goals as goal

pub size-room-requires : goal.size-room-requires
size-room-requires c =
    let es : c.as_slice.result.now ≡ without c.args.axis c.args.view.now.shape =
    parted c.args.view.now.shape c.shape-shape.result.items c.remove.new.self.items c.as_slice.result.now c.args.axis c.requires.axis c.shape-shape.ensures.value c.remove.ensures.items c.as_slice.ensures.value in
    omega (arith, bound-without c.args.view.now.shape c.args.axis, ap bound_of es, c.shape-shape.ensures.array.small)

pub folds-requires-clause-axis : goal.folds-requires-clause-axis
folds-requires-clause-axis c = omega (arith, length-lengths c.strided.result.axes.now, ap length c.strided.ensures.shape)

pub returns-in_err-numbers : goal.returns-in_err-numbers
returns-in_err-numbers c =
    let p = err_from_is_err_and c.from_residual.result c.from_residual.ensures.1 in
    rw (p.1, p.2)
    (answers_err {B = Arr} {D = Arr} (λ (v : Vec ℤ Global). v.items) (λ r. r) (folds_along c.args.function c.args.axis (shown_by c.strided.result)) (folds_shaped c.args.function c.args.axis c.args.view.now) c.in_err-numbers.field-0.0
    (λ e h. ap (λ (a : Arr). folds_shaped c.args.function c.args.axis a) (sym (shows_one c.args.view.now c.strided.result c.strided.ensures))
    ∙ ok_map_err (numbers_in (without c.args.axis (lengths c.strided.result.axes.now))) (folds_along c.args.function c.args.axis (shown_by c.strided.result)) e h)
    c.in_err-numbers.ensures)

pub formed-requires-clause-full : goal.formed-requires-clause-full
formed-requires-clause-full c =
    let es : c.remove.new.self.items ≡ without c.args.axis c.args.view.now.shape =
    parted c.args.view.now.shape c.shape-shape.result.items c.remove.new.self.items c.remove.new.self.items c.args.axis c.requires.axis c.shape-shape.ensures.value c.remove.ensures.items refl in
    ap (λ (i : Items). length (cells_of i)) c.wide.ensures
    ∙ length-map c.in_ok-numbers.numbers.items Num
    ∙ length-all_ok _ _ c.in_ok-numbers.numbers.items c.in_ok-numbers.ensures
    ∙ length-indices (without c.args.axis (lengths c.strided.result.axes.now))
    ∙ ap (λ (s : List ℕ). size_of (without c.args.axis s)) (sym c.strided.ensures.shape)
    ∙ ap size_of (sym es)

pub formed-requires-clause-small : goal.formed-requires-clause-small
formed-requires-clause-small c =
    let es : c.remove.new.self.items ≡ without c.args.axis c.args.view.now.shape =
    parted c.args.view.now.shape c.shape-shape.result.items c.remove.new.self.items c.remove.new.self.items c.args.axis c.requires.axis c.shape-shape.ensures.value c.remove.ensures.items refl in
    omega (arith, bound-without c.args.view.now.shape c.args.axis, ap bound_of es, c.shape-shape.ensures.array.small)

pub returns : goal.returns
returns c =
    let es : c.remove.new.self.items ≡ without c.args.axis c.args.view.now.shape =
    parted c.args.view.now.shape c.shape-shape.result.items c.remove.new.self.items c.remove.new.self.items c.args.axis c.requires.axis c.shape-shape.ensures.value c.remove.ensures.items refl in
    answers_along (λ (r : Arr). r) _ _ c.formed.result
    (ap (λ (a : Arr). folds_shaped c.args.function c.args.axis a) (sym (shows_one c.args.view.now c.strided.result c.strided.ensures))
    ∙ ap (ok_map (numbers_in (without c.args.axis (lengths c.strided.result.axes.now)))) c.in_ok-numbers.ensures
    ∙ same_array (without c.args.axis (lengths c.strided.result.axes.now)) c.remove.new.self.items (Numbers c.in_ok-numbers.numbers.items) (items_of c.wide.result)
    (ap (without c.args.axis) (sym c.strided.ensures.shape) ∙ sym es) (sym c.wide.ensures))
    c.formed.ensures
