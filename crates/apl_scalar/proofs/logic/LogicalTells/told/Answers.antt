use Rattle.std.proofs.Common.{arith, sym, ◌<ℤ◌, pos}
use Rattle.std.proofs.lemmas.Int.{ints, to_z-of_z}
use Rattle.apl_scalar.proofs.logic.LogicalTells.told.Goals as goal

pub returns-then-truth_flag-lt0 : goal.returns-then-truth_flag-lt0
returns-then-truth_flag-lt0 g c =
    let negative : c.truth_flag.result <ℤ pos 0 = grind (arith, ints) in
    sym (simp (to_z-of_z, c.ranges.x, c.ranges.y) at (c.truth_flag.ensures.leaves negative g.C.Connective.meaning))
