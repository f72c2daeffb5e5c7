use Rattle.std.proofs.Common.{◌≡◌, ◌∙◌, length, arith}
use Rattle.std.proofs.lemmas.Nat.{mul-le}
use Rattle.apl_arrays.specs.Cells.{cells_of}
use Rattle.apl_arrays.specs.Left.{listed}
use Rattle.apl_arrays.specs.Numbers.{kept_values}
use Rattle.apl_arrays.proofs.Exits.{answers_along}
use Rattle.apl_arrays.proofs.Places.{small_size}
use Rattle.apl_operators.proofs.Crossing.{by_crossing}
use Rattle.apl_operators.proofs.outer_product.outer_values.Goals as goal

pub cross_elements-requires : goal.cross_elements-requires
cross_elements-requires c =
    let items_a : listed c.items.result ≡ c.args.a.now.items = c.items.ensures ∙ c.in_ok-a.ensures in
    let items_b : listed c.items-2.result ≡ c.args.b.now.items = c.items-2.ensures ∙ c.in_ok-b.ensures in
    rw (items_a, items_b)
    (omega (
      arith,
      mul-le (length (cells_of c.args.a.now.items)) (length (cells_of c.args.b.now.items)) 1000000 1000000 (small_size _ c.args.a.now.shape c.requires.a.full c.requires.a.small)
          (small_size _ c.args.b.now.shape c.requires.b.full c.requires.b.small),
    ))

pub returns : goal.returns
returns c =
    let items_a : listed c.items.result ≡ c.args.a.now.items = c.items.ensures ∙ c.in_ok-a.ensures in
    let items_b : listed c.items-2.result ≡ c.args.b.now.items = c.items-2.ensures ∙ c.in_ok-b.ensures in
    answers_along kept_values _ _ c.cross_elements.result
    (by_crossing c.args.function c.args.a.now c.args.b.now c.requires.a.full c.requires.b.full)
    (rw (items_a, items_b) at c.cross_elements.ensures)
