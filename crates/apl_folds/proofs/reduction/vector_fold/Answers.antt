use Rattle.std.proofs.Common.{arith, ◌≡◌, ◌<◌, ◌≤◌, ◌+◌, List, ◌∷◌, [], length, ap, sym, subst, ◌∙◌}
use Rattle.apl_arrays.specs.declared.axis.Axis.{Axis}
use Rattle.apl_arrays.specs.Cells.{Items}
use Rattle.apl_arrays.specs.Left.{listed}
use Rattle.apl_arrays.specs.Numbers.{values}
use Rattle.apl_arrays.specs.Results.{ok_map}
use Rattle.apl_arrays.specs.Strides.{IsView}
use Rattle.apl_arrays.proofs.Gathers.{first_axis}
use Rattle.apl_arrays.proofs.Moves.{shown}
use Rattle.apl_folds.specs.Folds.{folds_along}
use Rattle.apl_folds.proofs.Vectors.{piece_within, piece_folded}
use Rattle.apl_folds.proofs.reduction.vector_fold.Goals as goal

pub piece_fold-fold-requires : goal.piece_fold-fold-requires
piece_fold-fold-requires c =
    let xs : List Axis = c.args.strided.now.axes.now in
    let one : length xs ≡ 1 = omega arith in
    let some : 0 < (first_axis xs).length = omega arith in
    let P : Items → Type 0 = λ i. IsView i c.args.strided.now.offset xs in
    piece_within (values c.in-Nums.numbers) c.args.strided.now.offset xs one c.if-axis-ne1.false c.if-axis-ne0.false some (subst P (ap listed c.in-Nums.is) c.requires)

pub returns-else-axis-ne0-clause-value : goal.returns-else-axis-ne0-clause-value
returns-else-axis-ne0-clause-value c =
    let xs : List Axis = c.args.strided.now.axes.now in
    let one : length xs ≡ 1 = omega arith in
    let some : 0 < (first_axis xs).length = omega arith in
    let P : Items → Type 0 = λ i. IsView i c.args.strided.now.offset xs in
    let within : c.args.strided.now.offset + (first_axis xs).length ≤ length (values c.in-Nums.numbers) =
    piece_within (values c.in-Nums.numbers) c.args.strided.now.offset xs one c.if-axis-ne1.false c.if-axis-ne0.false some (subst P (ap listed c.in-Nums.is) c.requires) in
    ap (λ (i : Items). folds_along c.args.function 0 (shown i c.args.strided.now.offset xs)) (ap listed c.in-Nums.is)
    ∙ piece_folded c.args.function (values c.in-Nums.numbers) c.args.strided.now.offset xs one c.if-axis-ne1.false c.if-axis-ne0.false within
    ∙ ap (ok_map (λ z. z ∷ [])) (sym c.piece_fold-fold.ensures)
