use Rattle.std.proofs.Common.{◌≡◌, ◌+◌, ◌-◌, ◌*◌, ◌<◌, ℕ, pos, drop, length, get_or, set, Ok, List, [], ℤ, to_z, of_z, w64, subst, refl, ap, sym, ◌∙◌, rules, arith}
use mir.Syntax.{w128}
use mir.Val.{SFits}
use Rattle.std.proofs.lemmas.Int.{to_z-of_z}
use Rattle.std.proofs.lemmas.List.{drop_all}
use Rattle.apl_scalar.specs.Functions.{in_range, residue}
use Rattle.apl_search.specs.Encoded.{left_of, left_by, IsNear}
use Rattle.apl_search.specs.inside.Rows.{digit_in_row, HasDigits, KeepsBefore}
use Rattle.apl_search.proofs.Digits.{row_below}
use Rattle.apl_search.proofs.Rounded.{fits_near}
use Rattle.apl_search.proofs.Rows.{rests_step, digit_here, digits_step, kept_step}
use Rattle.apl_search.proofs.encoding.write_digits.Goals as goal

-- where the digit of a row stands
place_in_row : (rows bases numbers row place : ℕ) → rows ≡ bases * numbers → row < bases → place < numbers → row * numbers + place < rows
place_in_row rows bases numbers row place e h p = omega (arith, row_below bases numbers row place h p)

pub overflow_mul-digit : goal.overflow_mul-digit
overflow_mul-digit c = record {
  fits =
      let below : c.loop-row.row - 1 < length c.args.bases.now = omega arith in
      let there : (c.loop-row.row - 1) * length c.args.numbers.now + c.args.place < length c.loop-row.rows =
      place_in_row (length c.loop-row.rows) (length c.args.bases.now) (length c.args.numbers.now) (c.loop-row.row - 1) c.args.place (c.loop-row.invariant.size ∙ c.requires.rows) below c.requires.place
      in
      omega arith;
}

pub overflow_add-digit : goal.overflow_add-digit
overflow_add-digit c = record {
  fits =
      let below : c.loop-row.row - 1 < length c.args.bases.now = omega arith in
      let there : (c.loop-row.row - 1) * length c.args.numbers.now + c.args.place < length c.loop-row.rows =
      place_in_row (length c.loop-row.rows) (length c.args.bases.now) (length c.args.numbers.now) (c.loop-row.row - 1) c.args.place (c.loop-row.invariant.size ∙ c.requires.rows) below c.requires.place
      in
      omega arith;
}

pub offset_bounds-rows-row : goal.offset_bounds-rows-row
offset_bounds-rows-row c = record {
  fits =
      let below : c.loop-row.row - 1 < length c.args.bases.now = omega arith in
      let there : (c.loop-row.row - 1) * length c.args.numbers.now + c.args.place < length c.loop-row.rows =
      place_in_row (length c.loop-row.rows) (length c.args.bases.now) (length c.args.numbers.now) (c.loop-row.row - 1) c.args.place (c.loop-row.invariant.size ∙ c.requires.rows) below c.requires.place
      in
      omega arith;
}

pub bounds-rows-row : goal.bounds-rows-row
bounds-rows-row c =
    let below : c.loop-row.row - 1 < length c.args.bases.now = omega arith in
    place_in_row (length c.loop-row.rows) (length c.args.bases.now) (length c.args.numbers.now) (c.loop-row.row - 1) c.args.place (c.loop-row.invariant.size ∙ c.requires.rows) below c.requires.place

pub loop-row-init : goal.loop-row-init
loop-row-init c =
    let fits : SFits w128 c.wide_at-rest.result = fits_near c.wide_at-rest.result c.wide_at-rest.ensures.near in
    let same : to_z w128 (of_z w128 c.wide_at-rest.result) ≡ c.wide_at-rest.result = to_z-of_z w128 c.wide_at-rest.result fits in
    let none : drop (length c.args.bases.now) c.args.bases.now ≡ [] = drop_all (length c.args.bases.now) c.args.bases.now (omega arith) in
    record {
      rest = same ∙ c.wide_at-rest.ensures.value ∙ ap (λ (zs : List ℤ). left_by zs (get_or c.args.numbers.now c.args.place (pos 0))) (sym none);
      near = subst IsNear (sym same) c.wide_at-rest.ensures.near;
      size = refl;
      digits = λ row above below. absurd (omega (arith, above, below));
      kept = λ row i h. refl;
    }

pub loop-row-preserved : goal.loop-row-preserved
loop-row-preserved c =
    let row : ℕ = c.loop-row.row - 1 in
    let next : c.loop-row.row ≡ row + 1 = omega arith in
    let below : row < length c.args.bases.now = omega arith in
    let fits_base : SFits w128 c.wide_at.result = fits_near c.wide_at.result c.wide_at.ensures.near in
    let fits_rest : SFits w128 (to_z w128 c.loop-row.rest-bits) = fits_near (to_z w128 c.loop-row.rest-bits) c.loop-row.invariant.near in
    let fits_left : SFits w128 c.divided-digit.result.1 = fits_near c.divided-digit.result.1 c.divided-digit.ensures.near in
    let fits_wide : SFits w128 c.divided-digit.result.0 = search rules in
    let fits_digit : SFits w64 c.in_ok-digit.digit = search rules in
    let digit : c.divided-digit.result.0 ≡ residue c.wide_at.result (to_z w128 c.loop-row.rest-bits) = simp to_z-of_z at c.divided-digit.ensures.digit in
    let left : c.divided-digit.result.1 ≡ left_of c.wide_at.result (to_z w128 c.loop-row.rest-bits) = simp to_z-of_z at c.divided-digit.ensures.rest in
    let P : ℕ → Type 0 = λ n. to_z w128 c.loop-row.rest-bits ≡ left_by (drop n c.args.bases.now) (get_or c.args.numbers.now c.args.place (pos 0)) in
    let rest : to_z w128 c.loop-row.rest-bits ≡ left_by (drop (row + 1) c.args.bases.now) (get_or c.args.numbers.now c.args.place (pos 0)) = subst P next c.loop-row.invariant.rest in
    let Q : ℕ → Type 0 = λ n. HasDigits c.args.bases.now c.args.numbers.now c.args.place n c.loop-row.rows in
    let digits : HasDigits c.args.bases.now c.args.numbers.now c.args.place (row + 1) c.loop-row.rows = subst Q next c.loop-row.invariant.digits in
    let here : c.divided-digit.result.0 ≡ digit_in_row c.args.bases.now (get_or c.args.numbers.now c.args.place (pos 0)) row =
    digit_here c.args.bases.now (get_or c.args.numbers.now c.args.place (pos 0)) c.wide_at.result (to_z w128 c.loop-row.rest-bits) c.divided-digit.result.0 row c.wide_at.ensures.value rest digit
    in
    let narrowed : c.narrowed.result ≡ in_range c.divided-digit.result.0 = simp to_z-of_z at c.narrowed.ensures in
    let found : in_range (digit_in_row c.args.bases.now (get_or c.args.numbers.now c.args.place (pos 0)) row) ≡ Ok c.in_ok-digit.digit = ap in_range (sym here) ∙ sym narrowed ∙ c.in_ok-digit.was in
    let size : length c.loop-row.rows ≡ length c.args.bases.now * length c.args.numbers.now = c.loop-row.invariant.size ∙ c.requires.rows in
    let after : HasDigits c.args.bases.now c.args.numbers.now c.args.place row (set c.loop-row.rows (row * length c.args.numbers.now + c.args.place) c.in_ok-digit.digit) =
    digits_step c.args.bases.now c.args.numbers.now c.args.place row c.loop-row.rows c.in_ok-digit.digit below c.requires.place size found digits
    in
    let kept : KeepsBefore (length c.args.numbers.now) c.args.place c.args.rows.now (set c.loop-row.rows (row * length c.args.numbers.now + c.args.place) c.in_ok-digit.digit) =
    kept_step (length c.args.numbers.now) c.args.place row c.args.rows.now c.loop-row.rows c.in_ok-digit.digit c.requires.place c.loop-row.invariant.kept
    in
    record {
      rest =
          simp to_z-of_z
          (rests_step c.args.bases.now (get_or c.args.numbers.now c.args.place (pos 0)) c.wide_at.result (to_z w128 c.loop-row.rest-bits) c.divided-digit.result.1 row below c.wide_at.ensures.value rest left);
      near = simp to_z-of_z c.divided-digit.ensures.near;
      size = search rules;
      digits = simp to_z-of_z after;
      kept = simp to_z-of_z kept;
    }
