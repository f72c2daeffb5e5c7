use Rattle.std.proofs.lemmas.Int.{to_z-of_z}
use Rattle.apl_folds.proofs.LastTwo.{ends_next}
use Rattle.apl_folds.proofs.ends.EndsKept.next.Goals as goal

pub returns : goal.returns
returns g c =
    λ numbers before.
    simp (to_z-of_z, c.ranges.number) (ends_next g.F.Scalar.meaning numbers c.args.self c.args.number c.with.result c.with-2.result c.with.ensures c.with-2.ensures before)
