use Rattle.std.proofs.Common.{rules, ◌≡◌, ◌+ℤ◌, ℤ, FitsSigned, ◌∙◌, subst, w64}
use Rattle.std.proofs.lemmas.Int.{to_z-of_z}
use mir.Val.{SFits}
use Rattle.apl_folds.proofs.Totals.{sum_behind}
use Rattle.apl_folds.proofs.running.TotalRunning.then.Goals as goal

pub returns : goal.returns
returns g c =
    λ numbers room e.
    let fold : ℤ = g.M.Lane.value c.args.fold in
    let fits : SFits w64 c.wide.result = search rules in
    let Adds : ℤ → Type 0 = λ x. FitsSigned g.M.Lane.width (fold +ℤ x) → g.M.Lane.value c.plus.result ≡ fold +ℤ x in
    sum_behind g.M.Lane.width numbers (g.L.Lane.value c.args.number) fold (g.M.Lane.value c.plus.result) room e (subst Adds (to_z-of_z w64 c.wide.result fits ∙ c.wide.ensures.value) c.plus.ensures)
