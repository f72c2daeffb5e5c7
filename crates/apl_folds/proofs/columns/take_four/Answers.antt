use Rattle.std.proofs.Common.{rules, arith, ◌≡◌, ◌≢◌, ◌≤ℤ◌, ℕ, ℤ, List, pos, Ok, ◌∷◌, get_or, subst, ◌∙◌, w64}
use Rattle.std.proofs.lemmas.Int.{to_z-of_z}
use Rattle.std.proofs.lemmas.List.{get_or-set_other}
use mir.Val.{SFits}
use Rattle.apl_folds.specs.Lines.{fold_by}
use Rattle.apl_folds.proofs.Rights.{four_along}
use Rattle.apl_folds.proofs.Told.{filled_more}
use Rattle.apl_folds.proofs.columns.take_four.Goals as goal

pub loop-j-preserved : goal.loop-j-preserved
loop-j-preserved g c =
    let f = g.S.Step.meaning in
    let j = c.loop-j.j in
    let value : ℤ = c.fold_four-value.result.0 in
    let fits : SFits w64 c.either-flags.result = search rules in
    let fits_flag : SFits w64 c.fold_four-value.result.1 = search rules in
    let fits_value : SFits w64 c.fold_four-value.result.0 = search rules in
    let fits_first : SFits w64 c.number_at.result = search rules in
    let fits_second : SFits w64 c.number_at-in-loop-j.result = search rules in
    let fits_third : SFits w64 c.number_at-in-loop-j-2.result = search rules in
    let fits_fourth : SFits w64 c.number_at-in-loop-j-3.result = search rules in
    let fits_fold : SFits w64 (get_or c.loop-j.folds j (pos 0)) = search rules in
    let front : ℕ → List ℤ → List ℤ = λ k rest. get_or (g.L.Lane.numbers c.args.first.now) k (pos 0) ∷ get_or (g.L.Lane.numbers c.args.second.now) k (pos 0) ∷ get_or (g.L.Lane.numbers c.args.third.now) k (pos 0) ∷ get_or (g.L.Lane.numbers c.args.fourth.now) k (pos 0) ∷ rest in
    let Gives : ℕ → ℤ → ℤ → Type 0 = λ k z v. (rest : List ℤ) → g.S.Step.room (front k rest) → fold_by f rest ≡ Ok z → fold_by f (front k rest) ≡ Ok v in
    simp (to_z-of_z, fits_value) (record {
      so_far =
          λ z.
          let raised : pos 0 ≤ℤ c.either-flags.result = simp to_z-of_z at z in
          let both = c.either-flags.ensures.neither raised in
          let fresh : pos 0 ≤ℤ c.fold_four-value.result.1 = simp to_z-of_z at both.1 in
          let here : Gives j (get_or c.loop-j.folds j (pos 0)) value =
          four_along f g.S.Step.room (get_or (g.L.Lane.numbers c.args.first.now) j (pos 0)) (get_or (g.L.Lane.numbers c.args.second.now) j (pos 0)) (get_or (g.L.Lane.numbers c.args.third.now) j (pos 0)) (get_or (g.L.Lane.numbers c.args.fourth.now) j (pos 0)) (get_or c.loop-j.folds j (pos 0)) _ _ _ _ _ value
          (to_z-of_z w64 c.number_at.result fits_first ∙ c.number_at.ensures) (to_z-of_z w64 c.number_at-in-loop-j.result fits_second ∙ c.number_at-in-loop-j.ensures) (to_z-of_z w64 c.number_at-in-loop-j-2.result fits_third ∙ c.number_at-in-loop-j-2.ensures) (to_z-of_z w64 c.number_at-in-loop-j-3.result fits_fourth ∙ c.number_at-in-loop-j-3.ensures)
          (to_z-of_z w64 (get_or c.loop-j.folds j (pos 0)) fits_fold) (c.fold_four-value.ensures fresh) in
          filled_more (pos 0) (λ k v. Gives k (get_or c.args.folds.now k (pos 0)) v) c.loop-j.folds j value (omega arith)
          (subst (λ (z : ℤ). Gives j z value) (c.loop-j.invariant.others j (omega arith)) here)
          (c.loop-j.invariant.so_far both.0);
      others =
          λ k h.
          let apart : k ≢ j = λ e. omega (arith, e) in
          get_or-set_other c.loop-j.folds j k value (pos 0) apart ∙ c.loop-j.invariant.others k (omega arith);
    })
