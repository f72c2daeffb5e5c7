use Rattle.std.proofs.Common.{arith, ◌≡◌, length, refl, ap, sym, ◌∙◌}
use Rattle.apl_arrays.specs.Axes.{without}
use Rattle.apl_arrays.specs.Cells.{Arr, Items, cells_of}
use Rattle.apl_arrays.specs.Index.{size_of, bound_of}
use Rattle.apl_arrays.proofs.Exits.{answers_along}
use Rattle.apl_folds.proofs.Shapes.{bound-without, size-squeezed, same_array}
use Rattle.apl_folds.proofs.Taken.{parted}
use Rattle.apl_folds.proofs.reduction.squeeze.Goals as goal

pub formed-requires-clause-full : goal.formed-requires-clause-full
formed-requires-clause-full c =
    let es : c.remove.new.self.items ≡ without c.args.axis c.args.view.now.shape =
    parted c.args.view.now.shape c.shape-shape.result.items c.remove.new.self.items c.remove.new.self.items c.args.axis c.requires.axis c.shape-shape.ensures.value c.remove.ensures.items refl in
    ap (λ (i : Items). length (cells_of i)) (c.in_ok-to_ravel.ensures ∙ c.items.ensures ∙ c.in_ok-in_order.ensures)
    ∙ c.shape-shape.ensures.array.full
    ∙ sym (size-squeezed c.args.view.now.shape c.args.axis c.requires.axis c.requires.one)
    ∙ ap size_of (sym es)

pub formed-requires-clause-small : goal.formed-requires-clause-small
formed-requires-clause-small c =
    let es : c.remove.new.self.items ≡ without c.args.axis c.args.view.now.shape =
    parted c.args.view.now.shape c.shape-shape.result.items c.remove.new.self.items c.remove.new.self.items c.args.axis c.requires.axis c.shape-shape.ensures.value c.remove.ensures.items refl in
    omega (arith, bound-without c.args.view.now.shape c.args.axis, ap bound_of es, c.shape-shape.ensures.array.small)

pub returns : goal.returns
returns c =
    let es : c.remove.new.self.items ≡ without c.args.axis c.args.view.now.shape =
    parted c.args.view.now.shape c.shape-shape.result.items c.remove.new.self.items c.remove.new.self.items c.args.axis c.requires.axis c.shape-shape.ensures.value c.remove.ensures.items refl in
    answers_along (λ (r : Arr). r) _ _ c.formed.result
    (same_array _ _ _ _ (sym es) (sym (c.in_ok-to_ravel.ensures ∙ c.items.ensures ∙ c.in_ok-in_order.ensures)))
    c.formed.ensures
