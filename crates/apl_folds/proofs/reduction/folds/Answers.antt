use Rattle.std.proofs.Common.{arith, ◌≡◌, ◌≤◌, ◌<◌, ℤ, List, Vec, Global, length, get_or, ap, sym, ◌∙◌}
use Rattle.std.proofs.lemmas.List.{length-map}
use Rattle.apl_arrays.specs.declared.axis.Axis.{Axis}
use Rattle.apl_arrays.specs.declared.cell.Cell.TheVariants.{Num, Char}
use Rattle.apl_arrays.specs.declared.elements.Elements.{Elements}
use Rattle.apl_arrays.specs.Axes.{without}
use Rattle.apl_arrays.specs.Cells.{cells_of}
use Rattle.apl_arrays.specs.Left.{listed}
use Rattle.apl_arrays.specs.Numbers.{values}
use Rattle.apl_arrays.proofs.Exits.{answers_along}
use Rattle.apl_arrays.proofs.Moves.{shown}
use Rattle.apl_arrays.proofs.Steps.{get_or-lengths}
use Rattle.apl_folds.specs.Folds.{folds_along}
use Rattle.apl_folds.proofs.Along.{folds_of_lines, comparisons_of_lines, folds_of_none, is_line, near_others}
use Rattle.apl_folds.proofs.Taken.{parted}
use Rattle.apl_folds.proofs.reduction.folds.Goals as goal

pub folds_of_none-requires-clause-near : goal.folds_of_none-requires-clause-near
folds_of_none-requires-clause-near c =
    let xs : List Axis = c.args.strided.now.axes.now in
    let inner : Axis = c.remove-inner.result in
    let eo : c.as_slice.result.now ≡ without c.args.axis xs = parted xs c.copy_axes-others.result.items c.remove-inner.new.self.items c.as_slice.result.now c.args.axis c.requires.axis c.copy_axes-others.ensures c.remove-inner.ensures.items c.as_slice.ensures.value in
    let ei : inner ≡ get_or xs c.args.axis inner = c.remove-inner.ensures.value ∙ ap (λ (l : List Axis). get_or l c.args.axis inner) c.copy_axes-others.ensures in
    near_others c.args.strided.now.offset xs c.as_slice.result.now c.args.axis inner c.requires.axis eo c.requires.steps.near

pub returns-then-inner-eq0 : goal.returns-then-inner-eq0
returns-then-inner-eq0 c =
    let xs : List Axis = c.args.strided.now.axes.now in
    let inner : Axis = c.remove-inner.result in
    let eo : c.as_slice.result.now ≡ without c.args.axis xs = parted xs c.copy_axes-others.result.items c.remove-inner.new.self.items c.as_slice.result.now c.args.axis c.requires.axis c.copy_axes-others.ensures c.remove-inner.ensures.items c.as_slice.ensures.value in
    let ei : inner ≡ get_or xs c.args.axis inner = c.remove-inner.ensures.value ∙ ap (λ (l : List Axis). get_or l c.args.axis inner) c.copy_axes-others.ensures in
    answers_along (λ (v : Vec ℤ Global). v.items) _ _ c.folds_of_none.result
    (sym (folds_of_none c.args.function (listed c.args.strided.now.items) c.args.strided.now.offset xs c.as_slice.result.now inner c.args.axis c.requires.axis eo ei c.if-inner-eq0.true))
    c.folds_of_none.ensures

pub folds_of_numbers-requires : goal.folds_of_numbers-requires
folds_of_numbers-requires c =
    let xs : List Axis = c.args.strided.now.axes.now in
    let inner : Axis = c.remove-inner.result in
    let eo : c.as_slice.result.now ≡ without c.args.axis xs = parted xs c.copy_axes-others.result.items c.remove-inner.new.self.items c.as_slice.result.now c.args.axis c.requires.axis c.copy_axes-others.ensures c.remove-inner.ensures.items c.as_slice.ensures.value in
    let ei : inner ≡ get_or xs c.args.axis inner = c.remove-inner.ensures.value ∙ ap (λ (l : List Axis). get_or l c.args.axis inner) c.copy_axes-others.ensures in
    let some : 0 < inner.length = omega arith in
    let size : length (cells_of (listed c.args.strided.now.items)) ≡ length (values c.in-Nums.numbers) =
    ap (λ (e : Elements). length (cells_of (listed e))) c.in-Nums.is ∙ length-map (values c.in-Nums.numbers) Num in
    record {
      depth = tt;
      near = near_others c.args.strided.now.offset xs c.as_slice.result.now c.args.axis inner c.requires.axis eo c.requires.steps.near;
      each = is_line (length (values c.in-Nums.numbers)) c.args.strided.now.offset xs c.as_slice.result.now inner c.args.axis c.requires.axis eo ei some
          (λ i w. omega (arith, c.requires.steps.placed i w, size)) c.requires.steps.near;
    }

pub returns-in-Nums : goal.returns-in-Nums
returns-in-Nums c =
    let xs : List Axis = c.args.strided.now.axes.now in
    let inner : Axis = c.remove-inner.result in
    let eo : c.as_slice.result.now ≡ without c.args.axis xs = parted xs c.copy_axes-others.result.items c.remove-inner.new.self.items c.as_slice.result.now c.args.axis c.requires.axis c.copy_axes-others.ensures c.remove-inner.ensures.items c.as_slice.ensures.value in
    let ei : inner ≡ get_or xs c.args.axis inner = c.remove-inner.ensures.value ∙ ap (λ (l : List Axis). get_or l c.args.axis inner) c.copy_axes-others.ensures in
    let long : 0 < inner.length = omega arith in
    answers_along (λ (v : Vec ℤ Global). v.items) _ _ c.folds_of_numbers.result
    (ap (λ (e : Elements). folds_along c.args.function c.args.axis (shown (listed e) c.args.strided.now.offset xs)) c.in-Nums.is
    ∙ sym (folds_of_lines c.args.function (values c.in-Nums.numbers) c.args.strided.now.offset xs c.as_slice.result.now inner c.args.axis c.requires.axis eo ei long))
    c.folds_of_numbers.ensures

pub folds_of_characters-requires : goal.folds_of_characters-requires
folds_of_characters-requires c =
    let xs : List Axis = c.args.strided.now.axes.now in
    let inner : Axis = c.remove-inner.result in
    let eo : c.as_slice.result.now ≡ without c.args.axis xs = parted xs c.copy_axes-others.result.items c.remove-inner.new.self.items c.as_slice.result.now c.args.axis c.requires.axis c.copy_axes-others.ensures c.remove-inner.ensures.items c.as_slice.ensures.value in
    let ei : inner ≡ get_or xs c.args.axis inner = c.remove-inner.ensures.value ∙ ap (λ (l : List Axis). get_or l c.args.axis inner) c.copy_axes-others.ensures in
    let some : 0 < inner.length = omega arith in
    let size : length (cells_of (listed c.args.strided.now.items)) ≡ length c.in-Chars.characters.now =
    ap (λ (e : Elements). length (cells_of (listed e))) c.in-Chars.is ∙ length-map c.in-Chars.characters.now Char in
    record {
      depth = tt;
      near = near_others c.args.strided.now.offset xs c.as_slice.result.now c.args.axis inner c.requires.axis eo c.requires.steps.near;
      each = is_line (length c.in-Chars.characters.now) c.args.strided.now.offset xs c.as_slice.result.now inner c.args.axis c.requires.axis eo ei some
          (λ i w. omega (arith, c.requires.steps.placed i w, size)) c.requires.steps.near;
    }

pub returns-in-Chars : goal.returns-in-Chars
returns-in-Chars c =
    let xs : List Axis = c.args.strided.now.axes.now in
    let inner : Axis = c.remove-inner.result in
    let eo : c.as_slice.result.now ≡ without c.args.axis xs = parted xs c.copy_axes-others.result.items c.remove-inner.new.self.items c.as_slice.result.now c.args.axis c.requires.axis c.copy_axes-others.ensures c.remove-inner.ensures.items c.as_slice.ensures.value in
    let ei : inner ≡ get_or xs c.args.axis inner = c.remove-inner.ensures.value ∙ ap (λ (l : List Axis). get_or l c.args.axis inner) c.copy_axes-others.ensures in
    let long : 2 ≤ inner.length = omega (arith, c.requires.not_one, get_or-lengths xs c.args.axis inner c.requires.axis, ap (λ (a : Axis). a.length) ei) in
    answers_along (λ (v : Vec ℤ Global). v.items) _ _ c.folds_of_characters.result
    (ap (λ (e : Elements). folds_along c.args.function c.args.axis (shown (listed e) c.args.strided.now.offset xs)) c.in-Chars.is
    ∙ sym (comparisons_of_lines c.args.function c.in-Chars.characters.now c.args.strided.now.offset xs c.as_slice.result.now inner c.args.axis c.requires.axis eo ei long))
    c.folds_of_characters.ensures
