use Rattle.std.proofs.lemmas.Int.{to_z-of_z}
use Rattle.apl_folds.proofs.LastTwo.{told_fold}
use Rattle.apl_folds.proofs.ends.EndsKept.told.Goals as goal

pub returns-clause-fold : goal.returns-clause-fold
returns-clause-fold g c = told_fold g.F.Scalar.meaning c.args.self c.args.number c.with.result (simp (to_z-of_z, c.ranges.number) at c.with.ensures)
