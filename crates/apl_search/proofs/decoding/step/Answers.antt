use Rattle.std.proofs.Common.{arith, ◌+ℤ◌, ◌*ℤ◌}
use mir.Syntax.{w128, w64}
use mir.Val.{SFits}
use borrow.Author.Numbers.{signed_product}
use Rattle.std.proofs.lemmas.Int.{ints, to_z-of_z}
use Rattle.apl_search.proofs.Products.{sum_fits}
use Rattle.apl_search.proofs.decoding.step.Goals as goal

pub overflow_add-value : goal.overflow_add-value
overflow_add-value c =
    let fv : SFits w64 c.args.value = c.ranges.value in
    let fb : SFits w64 c.args.base = c.ranges.base in
    let fd : SFits w64 c.args.digit = c.ranges.digit in
    let gv : SFits w128 c.args.value = omega (arith, ints) in
    let gb : SFits w128 c.args.base = omega (arith, ints) in
    let gd : SFits w128 c.args.digit = omega (arith, ints) in
    let fp : SFits w128 (c.args.value *ℤ c.args.base) = simp to_z-of_z at (signed_product w128 w64 w64 c.args.value c.args.base c.ranges.value c.ranges.base tt) in
    simp to_z-of_z (sum_fits c.args.value c.args.base c.args.digit c.ranges.value c.ranges.base c.ranges.digit)

pub returns : goal.returns
returns c =
    let fv : SFits w64 c.args.value = c.ranges.value in
    let fb : SFits w64 c.args.base = c.ranges.base in
    let fd : SFits w64 c.args.digit = c.ranges.digit in
    let gv : SFits w128 c.args.value = omega (arith, ints) in
    let gb : SFits w128 c.args.base = omega (arith, ints) in
    let gd : SFits w128 c.args.digit = omega (arith, ints) in
    let fp : SFits w128 (c.args.value *ℤ c.args.base) = simp to_z-of_z at (signed_product w128 w64 w64 c.args.value c.args.base c.ranges.value c.ranges.base tt) in
    let fs : SFits w128 (c.args.value *ℤ c.args.base +ℤ c.args.digit) = sum_fits c.args.value c.args.base c.args.digit c.ranges.value c.ranges.base c.ranges.digit in
    simp to_z-of_z at c.narrowed.ensures
