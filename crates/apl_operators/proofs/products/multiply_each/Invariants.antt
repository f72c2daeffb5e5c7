use Rattle.std.proofs.Common.{◌≡◌, ◌-◌, ◌*◌, length}
use Rattle.std.specs.List.{range_with_len}
use Rattle.apl_arrays.specs.Results.{all_ok}
use Rattle.apl_arrays.proofs.InTurn.{after}
use Rattle.apl_scalar.specs.declared.function.Dyadic.TheVariants as two
use Rattle.apl_scalar.specs.Functions.{dyadic_of}
use Rattle.apl_operators.specs.Places.{crossed}
use Rattle.apl_operators.proofs.products.multiply_each.Given as goal

-- the products so far and those of the rows to come are all the products
abbrev pub invariant-loop-r : goal.invariant-loop-r
invariant-loop-r g l =
    let xs = g.L.Lane.numbers l.xs in
    let ys = g.L.Lane.numbers l.ys in
    after (g.M.Lane.numbers l.out.items) (all_ok (crossed (dyadic_of two.Times) xs ys) (range_with_len (l.r * length ys) (length xs * length ys - l.r * length ys)))
    ≡ all_ok (crossed (dyadic_of two.Times) xs ys) (range_with_len 0 (length xs * length ys))
