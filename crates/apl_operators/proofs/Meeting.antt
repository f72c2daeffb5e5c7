-- Rows and columns that meet, by places.
use Rattle.std.proofs.Common.{◌≡◌, ◌≢◌, ℕ, ℤ, pos, ◌+◌, ◌*◌, ◌/◌, ◌%◌, ◌<◌, Bool, true, false, cond, List, [], length, get_or, Result, Ok, Err, refl, ap, sym, ◌∙◌, arith}
use Rattle.std.specs.Prelude.{◌==◌}
use Rattle.std.specs.List.{range_with_len}
use Rattle.std.proofs.lemmas.Bool.{eqb-true, eqb-false}
use Rattle.std.proofs.lemmas.Nat.{mul-add-lt}
use Rattle.apl_faults.specs.declared.fault.Fault.{Fault}
use Rattle.apl_faults.specs.declared.fault.Fault.TheVariants.{Domain}
use Rattle.apl_arrays.specs.Cells.{Items, cells_of}
use Rattle.apl_arrays.specs.Results.{all_ok}
use Rattle.apl_arrays.proofs.InTurn.{turns_same}
use Rattle.apl_arrays.proofs.Nth.{row_below, rest_below}
use Rattle.apl_scalar.specs.declared.function.Dyadic.{Dyadic}
use Rattle.apl_scalar.specs.Functions.{dyadic_of}
use Rattle.apl_operators.specs.declared.joint.Joint.{Joint}
use Rattle.apl_operators.specs.Products.{extended_index}
use Rattle.apl_operators.specs.Places.{cells_met}
use Rattle.apl_operators.specs.inside.Standing.{Stand}
use Rattle.apl_operators.specs.Joints.{met, met_cells, folds_of, step_of, Joins}
use Rattle.apl_operators.proofs.Folding.{folds_same, folds_fail}
use Rattle.apl_folds.proofs.Faults.{fails_first}

pub extended_below : (l n k : ℕ) → (l ≢ 1 → l ≡ n) → k < n → extended_index l k < l
extended_below l n k fits h = each (l == 1) refl
  where
    each : (b : Bool) → (l == 1) ≡ b → cond b 0 k < l
    each true e = omega (arith, eqb-true l 1 e)
    each false e = let same : l ≡ n = fits (eqb-false l 1 e) in omega arith

-- steps of 0 along an axis that extends
pub steps : (l s k : ℕ) → k * step_of l s ≡ extended_index l k * s
steps l s k = each (l == 1)
  where
    each : (b : Bool) → k * cond b 0 s ≡ cond b 0 k * s
    each true = omega arith
    each false = refl

left_step : (l k : ℕ) → k * step_of l 1 ≡ extended_index l k
left_step l k = steps l 1 k ∙ one (extended_index l k)
  where
    one : (a : ℕ) → a * 1 ≡ a
    one a = omega arith

pub left_below : (j : Joint) (m n r k : ℕ) → Joins j m n → r < j.rows * j.columns → k < j.joined → (r / j.columns) * j.left + extended_index j.left k < m
left_below j m n r k fits h l =
    omega (arith, fits.left, mul-add-lt (r / j.columns) j.left (extended_index j.left k) j.rows (row_below j.rows j.columns r h) (extended_below j.left j.joined k fits.left_fits l))

pub right_below : (j : Joint) (m n r k : ℕ) → Joins j m n → r < j.rows * j.columns → k < j.joined → extended_index j.right k * j.columns + r % j.columns < n
right_below j m n r k fits h l =
    omega (arith, fits.right, mul-add-lt (extended_index j.right k) j.columns (r % j.columns) j.right (extended_below j.right j.joined k fits.right_fits l) (rest_below j.rows j.columns r h))

pub left_within : (j : Joint) (m n r k : ℕ) → Joins j m n → r < j.rows * j.columns → k < j.joined → (r / j.columns) * j.left + k * step_of j.left 1 < m
left_within j m n r k fits h l = rw (left_step j.left k) (left_below j m n r k fits h l)

turned_sum : (a b : ℕ) → a + b ≡ b + a
turned_sum a b = omega arith

pub right_within : (j : Joint) (m n r k : ℕ) → Joins j m n → r < j.rows * j.columns → k < j.joined → r % j.columns + k * step_of j.right j.columns < n
right_within j m n r k fits h l = rw (steps j.right j.columns k, turned_sum (r % j.columns) (extended_index j.right k * j.columns)) (right_below j m n r k fits h l)

-- what meets, by steps
pub met_by_steps : (g : ℤ → ℤ → Result ℤ Fault) (xs ys : List ℤ) (j : Joint) (r n s t : ℕ) → n ≡ j.joined → s ≡ step_of j.left 1 → t ≡ step_of j.right j.columns →
    met g xs ys j r ≡ all_ok (λ k. g (get_or xs ((r / j.columns) * j.left + k * s) (pos 0)) (get_or ys (r % j.columns + k * t) (pos 0))) (range_with_len 0 n)
met_by_steps g xs ys j r n s t e es et =
    turns_same _ (λ k. g (get_or xs ((r / j.columns) * j.left + k * s) (pos 0)) (get_or ys (r % j.columns + k * t) (pos 0))) j.joined
    (λ k h.
    ap (λ (p : ℕ). g (get_or xs p (pos 0)) (get_or ys (extended_index j.right k * j.columns + r % j.columns) (pos 0))) (ap (λ (q : ℕ). (r / j.columns) * j.left + q) (sym (ap (λ (z : ℕ). k * z) es ∙ left_step j.left k)))
    ∙ ap (λ (p : ℕ). g (get_or xs ((r / j.columns) * j.left + k * s) (pos 0)) (get_or ys p (pos 0)))
    (turned_sum (extended_index j.right k * j.columns) (r % j.columns) ∙ ap (λ (q : ℕ). r % j.columns + q) (sym (ap (λ (z : ℕ). k * z) et ∙ steps j.right j.columns k))))
    ∙ ap (λ (m : ℕ). all_ok (λ k. g (get_or xs ((r / j.columns) * j.left + k * s) (pos 0)) (get_or ys (r % j.columns + k * t) (pos 0))) (range_with_len 0 m)) (sym e)

-- what meets of elements, by the numbers that stand for them
pub folds_by_numbers : (f g : Dyadic) (a b : Items) (xs ys : List ℤ) (j : Joint) → Stand g a b xs ys → Joins j (length xs) (length ys) →
    folds_of f (met_cells g a b j) (range_with_len 0 (j.rows * j.columns)) ≡ folds_of f (met (dyadic_of g) xs ys j) (range_with_len 0 (j.rows * j.columns))
folds_by_numbers f g a b xs ys j s fits =
    folds_same f (met_cells g a b j) (met (dyadic_of g) xs ys j) (j.rows * j.columns)
    (λ r h. turns_same _ _ j.joined
    (λ k l. s.values ((r / j.columns) * j.left + extended_index j.left k) (extended_index j.right k * j.columns + r % j.columns) (left_below j (length xs) (length ys) r k fits h l) (right_below j (length xs) (length ys) r k fits h l)))

pub joins_along : (j : Joint) (m n p q : ℕ) → m ≡ p → n ≡ q → Joins j m n → Joins j p q
joins_along j m n p q e d h = record { left = sym e ∙ h.left; right = sym d ∙ h.right; left_fits = h.left_fits; right_fits = h.right_fits }

pub folds_of_failures : (f g : Dyadic) (a b : Items) (j : Joint) → ((i k : ℕ) → i < length (cells_of a) → k < length (cells_of b) → cells_met g a b i k ≡ Err Domain) → Joins j (length (cells_of a)) (length (cells_of b)) →
    0 < j.rows * j.columns → 0 < j.joined → folds_of f (met_cells g a b j) (range_with_len 0 (j.rows * j.columns)) ≡ Err Domain
folds_of_failures f g a b j each fits some joined =
    folds_fail f (met_cells g a b j) Domain (j.rows * j.columns) some
    (fails_first (λ k. cells_met g a b ((0 / j.columns) * j.left + extended_index j.left k) (extended_index j.right k * j.columns + 0 % j.columns)) Domain j.joined joined
    (each ((0 / j.columns) * j.left + extended_index j.left 0) (extended_index j.right 0 * j.columns + 0 % j.columns)
    (left_below j (length (cells_of a)) (length (cells_of b)) 0 0 fits some joined) (right_below j (length (cells_of a)) (length (cells_of b)) 0 0 fits some joined)))

-- along an axis of length 0 nothing meets
pub nothing_along : (g : Dyadic) (a b : Items) (j : Joint) (r : ℕ) → j.joined ≡ 0 → met_cells g a b j r ≡ Ok []
nothing_along g a b j r e = ap (λ (n : ℕ). all_ok (λ k. cells_met g a b ((r / j.columns) * j.left + extended_index j.left k) (extended_index j.right k * j.columns + r % j.columns)) (range_with_len 0 n)) e
