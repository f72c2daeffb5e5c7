-- Reductions of vectors that lie in one piece.
use Rattle.std.proofs.Common.{◌≡◌, ℕ, ℤ, pos, ◌+◌, ◌<◌, ◌≤◌, List, [], ◌∷◌, map, length, Result, Ok, Err, refl, ap, sym, ◌∙◌, arith}
use Rattle.std.specs.Prelude.{slice_range}
use Rattle.std.proofs.lemmas.List.{length-map, get_or_default}
use Rattle.apl_faults.specs.declared.fault.Fault.{Fault}
use Rattle.apl_arrays.specs.declared.axis.Axis.{Axis}
use Rattle.apl_arrays.specs.declared.cell.Cell.{Cell}
use Rattle.apl_arrays.specs.declared.cell.Cell.TheVariants.{Num}
use Rattle.apl_arrays.specs.declared.strided.Strided.{Strided}
use Rattle.apl_arrays.specs.Cells.{Arr, Numbers}
use Rattle.apl_arrays.specs.Index.{indices, is_within}
use Rattle.apl_arrays.specs.Axes.{without}
use Rattle.apl_arrays.specs.Results.{and_then, ok_map, all_ok}
use Rattle.apl_arrays.specs.Strides.{lengths, place_at, Shows, IsView}
use Rattle.apl_arrays.proofs.Gathers.{first_axis, only_axis}
use Rattle.apl_arrays.proofs.Moves.{shown}
use Rattle.apl_arrays.proofs.Steps.{length-lengths, no_axis}
use Rattle.apl_scalar.specs.declared.function.Dyadic.{Dyadic}
use Rattle.apl_scalar.specs.Extension.{numbers_in}
use Rattle.apl_folds.specs.Folds.{folded, items_along, folds_along, folds_shaped}
use Rattle.apl_folds.specs.Lines.{line_of, shown_by, IsLine}
use Rattle.apl_folds.proofs.Along.{numbers_along, is_line}
use Rattle.apl_folds.proofs.Rows.{side_by_side, line_within}
use Rattle.apl_folds.proofs.Shapes.{shows_one}

-- the numbers of a vector in one piece lie within those that are read
pub piece_within : (zs : List ℤ) (p : ℕ) (xs : List Axis) → length xs ≡ 1 → (first_axis xs).up ≡ 1 → (first_axis xs).down ≡ 0 → 0 < (first_axis xs).length → IsView (Numbers zs) p xs →
    p + (first_axis xs).length ≤ length zs
piece_within zs p xs e u d some v =
    let line : IsLine (length zs) (first_axis xs) p (first_axis xs).length =
    is_line (length zs) p xs [] (first_axis xs) 0 (omega arith) (sym (ap (without 0) (only_axis xs e))) (get_or_default xs 0 no_axis (first_axis xs) (omega arith)) some
    (λ i w. omega (arith, v.placed i w, length-map zs Num)) v.near [] refl in
    line_within (first_axis xs) p (first_axis xs).length (length zs) u d line

-- their fold is the one fold of the reduction
pub piece_folded : (f : Dyadic) (zs : List ℤ) (p : ℕ) (xs : List Axis) → length xs ≡ 1 → (first_axis xs).up ≡ 1 → (first_axis xs).down ≡ 0 → p + (first_axis xs).length ≤ length zs →
    folds_along f 0 (shown (Numbers zs) p xs) ≡ ok_map (λ z. z ∷ []) (folded f (map Num (slice_range zs p (p + (first_axis xs).length))))
piece_folded f zs p xs e u d h =
    ap (λ (ys : List Axis). all_ok (λ r. folded f (items_along 0 (shown (Numbers zs) p xs) r)) (indices (without 0 (lengths ys)))) (only_axis xs e)
    ∙ one (folded f (items_along 0 (shown (Numbers zs) p xs) []))
    ∙ ap (λ (l : List Cell). ok_map (λ z. z ∷ []) (folded f l))
    (numbers_along zs p xs no_axis 0 [] (omega arith) (ap (λ (ys : List Axis). is_within (lengths (without 0 ys)) []) (only_axis xs e))
    ∙ ap (λ (ys : List Axis). map Num (line_of (pos 0) zs (first_axis xs) (place_at p (without 0 ys) []) (first_axis xs).length)) (only_axis xs e))
    ∙ ap (λ (l : List ℤ). ok_map (λ z. z ∷ []) (folded f (map Num l)))
    (sym (side_by_side (pos 0) zs (first_axis xs) p (first_axis xs).length u d h))
  where
    one : (r : Result ℤ Fault) → and_then r (λ y. ok_map (λ ys. y ∷ ys) (Ok [])) ≡ ok_map (λ z. z ∷ []) r
    one (Ok z) = refl
    one (Err x) = refl

-- so it is the reduction
pub vector_shaped : (f : Dyadic) (a : Arr) (s : Strided) (axis : ℕ) (r : Result ℤ Fault) → Shows a s → axis < length a.shape → length s.axes.now ≡ 1 → folds_along f 0 (shown_by s) ≡ ok_map (λ z. z ∷ []) r →
    folds_shaped f axis a ≡ ok_map (λ z. numbers_in [] (z ∷ [])) r
vector_shaped f a s axis r h w e g =
    let first : axis ≡ 0 = omega (arith, ap length h.shape, length-lengths s.axes.now) in
    let none : without 0 a.shape ≡ [] = ap (without 0) (h.shape ∙ ap lengths (only_axis s.axes.now e)) in
    ap (λ (k : ℕ). folds_shaped f k a) first
    ∙ ap (λ (t : List ℕ). ok_map (numbers_in t) (folds_along f 0 a)) none
    ∙ ap (λ (b : Arr). ok_map (numbers_in []) (folds_along f 0 b)) (sym (shows_one a s h))
    ∙ ap (ok_map (numbers_in [])) g
    ∙ each r
  where
    each : (r : Result ℤ Fault) → ok_map (numbers_in []) (ok_map (λ z. z ∷ []) r) ≡ ok_map (λ z. numbers_in [] (z ∷ [])) r
    each (Ok z) = refl
    each (Err x) = refl
