use Rattle.std.proofs.Common.{◌≡◌, ℤ, List, Result, Ok, length, sym, subst}
use Rattle.std.specs.Prelude.{IfOk, IfSome}
use Rattle.apl_faults.specs.declared.fault.Fault.{Fault}
use Rattle.apl_arrays.specs.Cells.{Numbers}
use Rattle.apl_arrays.specs.Left.{listed}
use Rattle.apl_arrays.specs.Numbers.{kept_values, values}
use Rattle.apl_scalar.specs.declared.function.Dyadic.TheVariants as two
use Rattle.apl_scalar.specs.Functions.{dyadic_of}
use Rattle.apl_operators.specs.Joints.{met, met_cells, folds_met, Joins}
use Rattle.apl_operators.proofs.Meeting.{folds_by_numbers, joins_along}
use Rattle.apl_operators.proofs.StandIn.{numbers_stand}
use Rattle.apl_operators.proofs.inner_product.sums_of.Goals as goal

pub returns : goal.returns
returns c =
    let j = c.args.joint.now in
    let xs = values c.in-Nums.a in
    let ys = values c.in-Nums-b.b in
    let stand = numbers_stand two.Times xs ys in
    let joins : Joins c.args.joint.now (length (values c.in-Nums.a)) (length (values c.in-Nums-b.b)) = joins_along j _ _ (length xs) (length ys) (sym stand.left) (sym stand.right) (rw (c.in-Nums.is, c.in-Nums-b.is) at c.requires.joint) in
    let same : folds_met c.args.outer_function (met_cells c.args.inner_function (listed c.args.a) (listed c.args.b) j) j ≡ folds_met two.Plus (met (dyadic_of two.Times) xs ys j) j =
    rw (c.in-Plus.is, c.in-Times.is, c.in-Nums.is, c.in-Nums-b.is) (folds_by_numbers two.Plus two.Times (Numbers xs) (Numbers ys) xs ys j stand joins)
    in
    let P : Result (List ℤ) Fault → Type 0 = λ r. IfOk c.sums_of_products.result (λ found. IfSome found (λ v. r ≡ Ok (kept_values v))) in
    subst P (sym same) c.sums_of_products.ensures
