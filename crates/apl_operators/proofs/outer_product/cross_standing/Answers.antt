use Rattle.std.proofs.Common.{Vec, ℤ, Global}
use Rattle.apl_arrays.specs.Left.{listed}
use Rattle.apl_arrays.proofs.Exits.{answers_along}
use Rattle.apl_arrays.specs.Numbers.{typed_items}
use Rattle.apl_operators.proofs.StandIn.{crossed_by_numbers, crossed_fails}
use Rattle.apl_operators.proofs.outer_product.cross_standing.Goals as goal

pub returns-in-Some : goal.returns-in-Some
returns-in-Some c =
    answers_along (λ (v : Vec ℤ Global). v.items) _ _ c.cross_by.result
    (crossed_by_numbers c.args.function (listed c.args.a) (listed c.args.b) (typed_items c.in-Some.found.left) (typed_items c.in-Some.found.right) (rw c.in-Some.is at c.in_ok-found.ensures))
    (rw (c.as_slice.ensures, c.as_slice-in-Some.ensures) at c.cross_by.ensures)

pub returns-in-None : goal.returns-in-None
returns-in-None c = crossed_fails c.args.function (listed c.args.a) (listed c.args.b) (rw c.in-None.is at c.in_ok-found.ensures) c.requires.some
