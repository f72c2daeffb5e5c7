use Rattle.std.proofs.Common.{◌*ℤ◌, ◌-ℤ◌, ℤ, ap, sym, ◌∙◌}
use mir.Syntax.{w128}
use mir.Val.{SFits}
use Rattle.std.proofs.lemmas.Int.{to_z-of_z}
use Rattle.apl_search.proofs.Rounded.{digit_by, product_fits, difference_fits}
use Rattle.apl_search.proofs.dividing.digit.Goals as goal

pub overflow_mul-product : goal.overflow_mul-product
overflow_mul-product c =
    let fits_base : SFits w128 c.args.base = c.ranges.base in
    let fits_rest : SFits w128 c.args.rest = c.ranges.rest in
    simp to_z-of_z (product_fits c.args.base c.args.rest c.requires.base c.requires.rest)

pub overflow_sub-result : goal.overflow_sub-result
overflow_sub-result c =
    let fits_base : SFits w128 c.args.base = c.ranges.base in
    let fits_number : SFits w128 c.args.number = c.ranges.number in
    let fits_rest : SFits w128 c.args.rest = c.ranges.rest in
    let fits_product : SFits w128 (c.args.base *ℤ c.args.rest) = product_fits c.args.base c.args.rest c.requires.base c.requires.rest in
    simp to_z-of_z (difference_fits c.args.number c.args.base c.args.rest c.requires.number c.requires.base c.requires.rest)

pub returns : goal.returns
returns c =
    let fits_base : SFits w128 c.args.base = c.ranges.base in
    let fits_number : SFits w128 c.args.number = c.ranges.number in
    let fits_rest : SFits w128 c.args.rest = c.ranges.rest in
    let fits_product : SFits w128 (c.args.base *ℤ c.args.rest) = product_fits c.args.base c.args.rest c.requires.base c.requires.rest in
    let fits_difference : SFits w128 (c.args.number -ℤ c.args.base *ℤ c.args.rest) = difference_fits c.args.number c.args.base c.args.rest c.requires.number c.requires.base c.requires.rest in
    simp to_z-of_z (ap (λ (z : ℤ). c.args.number -ℤ c.args.base *ℤ z) c.requires.left ∙ sym (digit_by c.args.base c.args.number))
