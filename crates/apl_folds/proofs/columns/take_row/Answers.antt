use Rattle.std.proofs.Common.{rules, arith, ◌≡◌, ◌≢◌, ◌≤ℤ◌, ℕ, ℤ, List, pos, Ok, ◌∷◌, get_or, subst, ◌∙◌, w64}
use Rattle.std.proofs.lemmas.Int.{to_z-of_z}
use Rattle.std.proofs.lemmas.List.{get_or-set_other}
use mir.Val.{SFits}
use Rattle.apl_folds.specs.Lines.{fold_by}
use Rattle.apl_folds.proofs.Rights.{step_along}
use Rattle.apl_folds.proofs.Told.{filled_more}
use Rattle.apl_folds.proofs.columns.take_row.Goals as goal

pub loop-j-preserved : goal.loop-j-preserved
loop-j-preserved g c =
    let f = g.S.Step.meaning in
    let j = c.loop-j.j in
    let value : ℤ = c.step-value.result.0 in
    let fits : SFits w64 c.either-flags.result = search rules in
    let fits_flag : SFits w64 c.step-value.result.1 = search rules in
    let fits_value : SFits w64 c.step-value.result.0 = search rules in
    let fits_number : SFits w64 c.number_at.result = search rules in
    let fits_fold : SFits w64 (get_or c.loop-j.folds j (pos 0)) = search rules in
    let front : ℕ → List ℤ → List ℤ = λ k rest. get_or (g.L.Lane.numbers c.args.numbers.now) k (pos 0) ∷ rest in
    let Gives : ℕ → ℤ → ℤ → Type 0 = λ k z v. (rest : List ℤ) → g.S.Step.room (front k rest) → fold_by f rest ≡ Ok z → fold_by f (front k rest) ≡ Ok v in
    simp (to_z-of_z, fits_value) (record {
      so_far =
          λ z.
          let raised : pos 0 ≤ℤ c.either-flags.result = simp to_z-of_z at z in
          let both = c.either-flags.ensures.neither raised in
          let fresh : pos 0 ≤ℤ c.step-value.result.1 = simp to_z-of_z at both.1 in
          let here : Gives j (get_or c.loop-j.folds j (pos 0)) value =
          step_along f g.S.Step.room (get_or (g.L.Lane.numbers c.args.numbers.now) j (pos 0)) _ (get_or c.loop-j.folds j (pos 0)) _ value (to_z-of_z w64 c.number_at.result fits_number ∙ c.number_at.ensures)
          (to_z-of_z w64 (get_or c.loop-j.folds j (pos 0)) fits_fold) (c.step-value.ensures fresh) in
          filled_more (pos 0) (λ k v. Gives k (get_or c.args.folds.now k (pos 0)) v) c.loop-j.folds j value (omega arith)
          (subst (λ (z : ℤ). Gives j z value) (c.loop-j.invariant.others j (omega arith)) here)
          (c.loop-j.invariant.so_far both.0);
      others =
          λ k h.
          let apart : k ≢ j = λ e. omega (arith, e) in
          get_or-set_other c.loop-j.folds j k value (pos 0) apart ∙ c.loop-j.invariant.others k (omega arith);
    })
