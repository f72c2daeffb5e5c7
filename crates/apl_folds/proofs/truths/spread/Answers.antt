use Rattle.std.proofs.Common.{◌≡◌, w64, of_z}
use Rattle.std.proofs.lemmas.Int.{to_z-of_z}
use Rattle.apl_scalar.proofs.Truths.{small_truth}
use Rattle.apl_folds.proofs.truths.spread.Goals as goal

pub returns : goal.returns
returns c h =
    let e : c.cast_unsigned.result ≡ of_z w64 c.args.number = simp (to_z-of_z, c.ranges.number) at c.cast_unsigned.ensures in
    small_truth c.args.number c.ranges.number (rw e at h)
