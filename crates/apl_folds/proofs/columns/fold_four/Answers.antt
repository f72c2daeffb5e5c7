use Rattle.std.proofs.Common.{rules, ◌≤ℤ◌, pos, ◌∷◌, Ok, ap, sym, ◌∙◌, ℤ, w64}
use Rattle.std.proofs.lemmas.Int.{to_z-of_z}
use mir.Val.{SFits}
use Rattle.apl_folds.proofs.Rights.{step_along}
use Rattle.apl_folds.proofs.columns.fold_four.Goals as goal

pub returns : goal.returns
returns g c =
    λ z rest room e.
    let fits_first : SFits w64 c.args.first = search rules in
    let fits_second : SFits w64 c.args.second = search rules in
    let fits_third : SFits w64 c.args.third = search rules in
    let fits_fourth : SFits w64 c.args.fourth = search rules in
    let fits_known : SFits w64 c.args.known = search rules in
    let fits_one : SFits w64 c.step-one.result.0 = search rules in
    let fits_two : SFits w64 c.step-two.result.0 = search rules in
    let fits_three : SFits w64 c.step-three.result.0 = search rules in
    let fits_four : SFits w64 c.step-four.result.0 = search rules in
    let flag_one : SFits w64 c.step-one.result.1 = search rules in
    let flag_two : SFits w64 c.step-two.result.1 = search rules in
    let flag_three : SFits w64 c.step-three.result.1 = search rules in
    let flag_four : SFits w64 c.step-four.result.1 = search rules in
    let fits_last : SFits w64 c.either.result = search rules in
    let fits_prefix : SFits w64 c.either-2.result = search rules in
    let fits_all : SFits w64 c.either-3.result = search rules in
    let raised : pos 0 ≤ℤ c.either-3.result = simp to_z-of_z at z in
    let halves = c.either-3.ensures.neither raised in
    let last : pos 0 ≤ℤ c.either.result = simp to_z-of_z at halves.0 in
    let prefix : pos 0 ≤ℤ c.either-2.result = simp to_z-of_z at halves.1 in
    let lasts = c.either.ensures.neither last in
    let prefixes = c.either-2.ensures.neither prefix in
    let one : pos 0 ≤ℤ c.step-one.result.1 = simp to_z-of_z at lasts.0 in
    let two : pos 0 ≤ℤ c.step-two.result.1 = simp to_z-of_z at lasts.1 in
    let three : pos 0 ≤ℤ c.step-three.result.1 = simp to_z-of_z at prefixes.0 in
    let four : pos 0 ≤ℤ c.step-four.result.1 = simp to_z-of_z at prefixes.1 in
    let f = g.S.Step.meaning in
    let shorter = g.met.S.Step.shorter in
    let of_three = shorter c.args.first (c.args.second ∷ c.args.third ∷ c.args.fourth ∷ rest) room in
    let of_two = shorter c.args.second (c.args.third ∷ c.args.fourth ∷ rest) of_three in
    let of_one = shorter c.args.third (c.args.fourth ∷ rest) of_two in
    let is_one = step_along f g.S.Step.room c.args.fourth _ c.args.known _ c.step-one.result.0 (to_z-of_z w64 c.args.fourth fits_fourth) (to_z-of_z w64 c.args.known fits_known) (c.step-one.ensures one) rest of_one e in
    let is_two = step_along f g.S.Step.room c.args.third _ c.step-one.result.0 _ c.step-two.result.0 (to_z-of_z w64 c.args.third fits_third) (to_z-of_z w64 c.step-one.result.0 fits_one) (c.step-two.ensures two) (c.args.fourth ∷ rest) of_two is_one in
    let is_three = step_along f g.S.Step.room c.args.second _ c.step-two.result.0 _ c.step-three.result.0 (to_z-of_z w64 c.args.second fits_second) (to_z-of_z w64 c.step-two.result.0 fits_two) (c.step-three.ensures three) (c.args.third ∷ c.args.fourth ∷ rest) of_three is_two in
    let is_four = step_along f g.S.Step.room c.args.first _ c.step-three.result.0 _ c.step-four.result.0 (to_z-of_z w64 c.args.first fits_first) (to_z-of_z w64 c.step-three.result.0 fits_three) (c.step-four.ensures four) (c.args.second ∷ c.args.third ∷ c.args.fourth ∷ rest) room is_three in
    is_four ∙ ap (λ (x : ℤ). Ok x) (sym (to_z-of_z w64 c.step-four.result.0 fits_four))
