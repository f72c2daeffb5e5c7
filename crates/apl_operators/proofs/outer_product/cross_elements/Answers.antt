use Rattle.std.proofs.Common.{◌≡◌, false, length, sym, ◌∙◌, arith}
use Rattle.std.specs.Prelude.{◌==◌}
use Rattle.std.proofs.lemmas.Bool.{eqb-false}
use Rattle.apl_arrays.specs.Cells.{cells_of}
use Rattle.apl_arrays.specs.Left.{listed}
use Rattle.apl_arrays.proofs.Places.{mul_pos}
use Rattle.apl_operators.proofs.outer_product.cross_elements.Goals as goal

pub cross_standing-requires-clause-some : goal.cross_standing-requires-clause-some
cross_standing-requires-clause-some c =
    let some_a : (length (cells_of (listed c.args.a)) == 0) ≡ false = sym c.is_empty.ensures ∙ c.if-is_empty.false in
    let some_b : (length (cells_of (listed c.args.b)) == 0) ≡ false = sym c.is_empty-else-is_empty.ensures ∙ c.if-is_empty-2.false in
    omega (
      arith,
      mul_pos (length (cells_of (listed c.args.a))) (length (cells_of (listed c.args.b)))
          (omega (arith, eqb-false (length (cells_of (listed c.args.a))) 0 some_a)) (omega (arith, eqb-false (length (cells_of (listed c.args.b))) 0 some_b)),
    )
