use Rattle.std.proofs.Common.{◌∷◌, [], refl}
use Rattle.apl_folds.proofs.InQuarters.{fold_parts}
use Rattle.apl_folds.proofs.running.ChosenRunning.then.Goals as goal

pub returns : goal.returns
returns g c =
    λ numbers room e.
    fold_parts g.C.Scalar.meaning g.met.C.Choice.associative numbers (g.L.Lane.value c.args.number ∷ []) (g.L.Lane.value c.args.fold) (g.L.Lane.value c.args.number) (g.L.Lane.value c.of.result) e refl c.of.ensures
