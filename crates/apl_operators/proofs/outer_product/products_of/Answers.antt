use Rattle.std.proofs.Common.{◌≡◌, ℤ, List, Result, Ok, sym, subst}
use Rattle.std.specs.Prelude.{IfOk, IfSome}
use Rattle.apl_faults.specs.declared.fault.Fault.{Fault}
use Rattle.apl_arrays.specs.Cells.{Numbers}
use Rattle.apl_arrays.specs.Left.{listed}
use Rattle.apl_arrays.specs.Numbers.{kept_values, values}
use Rattle.apl_scalar.specs.declared.function.Dyadic.TheVariants as two
use Rattle.apl_scalar.specs.Functions.{dyadic_of}
use Rattle.apl_operators.specs.Places.{crossing, crossing_cells}
use Rattle.apl_operators.proofs.StandIn.{numbers_stand, crossed_by_numbers}
use Rattle.apl_operators.proofs.outer_product.products_of.Goals as goal

pub returns-in-Nums-b : goal.returns-in-Nums-b
returns-in-Nums-b c =
    let xs = values c.in-Nums.a in
    let ys = values c.in-Nums-b.b in
    let same : crossing_cells c.args.function (listed c.args.a) (listed c.args.b) ≡ crossing (dyadic_of two.Times) xs ys =
    rw (c.in-Times.is, c.in-Nums.is, c.in-Nums-b.is) (crossed_by_numbers two.Times (Numbers xs) (Numbers ys) xs ys (numbers_stand two.Times xs ys))
    in
    let P : Result (List ℤ) Fault → Type 0 = λ r. IfOk c.products.result (λ found. IfSome found (λ v. r ≡ Ok (kept_values v))) in
    subst P (sym same) c.products.ensures
