use Rattle.std.proofs.Common.{◌*◌, length, sym, Vec, ℤ, Global, arith}
use Rattle.apl_arrays.specs.Left.{listed}
use Rattle.apl_arrays.proofs.Exits.{answers_along}
use Rattle.apl_operators.specs.inside.Standing.{Stand}
use Rattle.apl_arrays.specs.Numbers.{typed_items}
use Rattle.apl_operators.specs.Joints.{met_cells}
use Rattle.apl_operators.proofs.Folding.{nothing_met}
use Rattle.apl_operators.proofs.Meeting.{folds_by_numbers, folds_of_failures, joins_along, nothing_along}
use Rattle.apl_operators.proofs.inner_product.fold_standing.Goals as goal

pub returns-then-joint-eq0 : goal.returns-then-joint-eq0
returns-then-joint-eq0 c =
    answers_along (λ (v : Vec ℤ Global). v.items) _ _ c.identities.result
    (nothing_met c.args.outer_function (met_cells c.args.inner_function (listed c.args.a) (listed c.args.b) c.args.joint.now) (c.args.joint.now.rows * c.args.joint.now.columns)
    (λ r. nothing_along c.args.inner_function (listed c.args.a) (listed c.args.b) c.args.joint.now r (omega arith)))
    c.identities.ensures

pub returns-in-Some : goal.returns-in-Some
returns-in-Some c =
    let stand : Stand c.args.inner_function (listed c.args.a) (listed c.args.b) (typed_items c.in-Some.found.left) (typed_items c.in-Some.found.right) = rw c.in-Some.is at c.in_ok-found.ensures in
    answers_along (λ (v : Vec ℤ Global). v.items) _ _ c.fold_met_by.result
    (folds_by_numbers c.args.outer_function c.args.inner_function (listed c.args.a) (listed c.args.b) (typed_items c.in-Some.found.left) (typed_items c.in-Some.found.right) c.args.joint.now stand
    (joins_along c.args.joint.now _ _ (length (typed_items c.in-Some.found.left)) (length (typed_items c.in-Some.found.right)) (sym stand.left) (sym stand.right) c.requires.joint))
    (rw (c.as_slice-left.ensures, c.as_slice-right.ensures) at c.fold_met_by.ensures)

pub returns-in-None : goal.returns-in-None
returns-in-None c =
    folds_of_failures c.args.outer_function c.args.inner_function (listed c.args.a) (listed c.args.b) c.args.joint.now (rw c.in-None.is at c.in_ok-found.ensures) c.requires.joint c.requires.some (omega arith)
