-- Sums of products that are so small that their order is all one.
use Rattle.std.proofs.Common.{zero, suc, ◌≡◌, Bool, true, false, cond, ℕ, ℤ, pos, ◌+ℤ◌, ◌*ℤ◌, ◌+◌, ◌-◌, ◌*◌, ◌/◌, ◌%◌, ◌<◌, ◌≤◌, ◌^◌, ◌⊎◌, min, List, [], ◌∷◌, map, length, get_or, set, get_or-set_other, Result, Ok, FitsSigned, refl, ap, sym, ◌∙◌, subst, arith, ⊎_elim, w64}
use Rattle.std.specs.Prelude.{unsigned_abs, ◌==◌}
use Rattle.std.specs.Int.{Width}
use Rattle.std.specs.List.{range_with_len, slice_range}
use Rattle.std.proofs.lemmas.Bool.{cases_lt, eqb-true}
use Rattle.std.proofs.lemmas.Int.{ints, unsigned_abs-mul}
use Rattle.std.proofs.lemmas.List.{get_or_past}
use Rattle.std.proofs.lemmas.Nat.{mul-le}
use Rattle.std.proofs.Math.Nat.{div-add-mod, mul-le-mul_right}
use Rattle.apl_faults.specs.declared.fault.Fault.{Fault}
use Rattle.apl_arrays.specs.declared.cell.Cell.TheVariants.{Num}
use Rattle.apl_arrays.specs.Results.{and_then, ok_map, all_ok}
use Rattle.apl_arrays.proofs.InTurn.{range_step, all_ok-map}
use Rattle.apl_arrays.proofs.Lanes.{numbers_set}
use Rattle.apl_arrays.proofs.Nth.{row_below, rest_below}
use Rattle.apl_scalar.specs.declared.function.Dyadic.TheVariants as two
use Rattle.apl_scalar.specs.Functions.{dyadic_of}
use Rattle.apl_scalar.proofs.Signs.{in_range-fits}
use Rattle.apl_scalar.proofs.Whole.{all_values}
use Rattle.apl_folds.specs.Folds.{folded}
use Rattle.apl_folds.specs.inside.Sums.{total, magnitudes}
use Rattle.apl_folds.proofs.Rights.{folded_numbers}
use Rattle.apl_folds.proofs.Totals.{total_small, fits_below, fold_total}
use Rattle.apl_operators.specs.declared.joint.Joint.{Joint}
use Rattle.apl_operators.specs.Products.{extended_index}
use Rattle.apl_operators.specs.Joints.{met, folds_met, row_place, column_place}
use Rattle.apl_operators.specs.inside.SumsOfProducts.{product_of, sum_from, IsMore, FitTogether, AreRowSums, row_in, AreSums}
use Rattle.apl_operators.proofs.SmallNumbers.{all_small}
use Rattle.apl_operators.proofs.Tables.{part_at, part_length}

-- a bound of products from bounds of their factors, as the code tests it
bound_fits : (n p q : ℕ) → q ≡ min (n * p) (2 ^ 64 - 1) → q < 2 ^ 63 → q ≡ n * p
bound_fits n p q e h = omega arith

exact_bound : (n m p : ℕ) → p ≡ min m (2 ^ 64 - 1) → suc n * p < 2 ^ 63 → m ≡ p
exact_bound n m p e h = let whole : p + n * p < 2 ^ 63 = omega arith in omega arith

pub fit_by_bounds : (w : Width) (xs ys : List ℤ) (a b n p q : ℕ) → ((k : ℕ) → k < length xs → unsigned_abs (get_or xs k (pos 0)) ≤ a) → ((k : ℕ) → k < length ys → unsigned_abs (get_or ys k (pos 0)) ≤ b) →
    p ≡ min (a * b) (2 ^ 64 - 1) → q ≡ min (n * p) (2 ^ 64 - 1) → q < 2 ^ 63 → FitsSigned w (pos q) → FitTogether w xs ys n
fit_by_bounds w xs ys a b zero p q hx hy ep eq h held = record {
  bound = a * b;
  fits = omega arith;
  held = subst (λ (m : ℕ). FitsSigned w (pos m)) (omega arith) held;
  each = λ i k. mul-le (unsigned_abs (get_or xs i (pos 0))) (unsigned_abs (get_or ys k (pos 0))) a b (all_small xs a hx i) (all_small ys b hy k);
}
fit_by_bounds w xs ys a b (suc n) p q hx hy ep eq h held =
    let same : q ≡ suc n * p = bound_fits (suc n) p q eq h in
    let fits : suc n * p < 2 ^ 63 = subst (λ (m : ℕ). m < 2 ^ 63) same h in
    record {
      bound = p;
      fits = fits;
      held = subst (λ (m : ℕ). FitsSigned w (pos m)) same held;
      each = λ i k. omega (arith, exact_bound n (a * b) p ep fits, mul-le (unsigned_abs (get_or xs i (pos 0))) (unsigned_abs (get_or ys k (pos 0))) a b (all_small xs a hx i) (all_small ys b hy k));
    }

-- what holds a number holds those of no larger magnitude
pub fits_within : (w : Width) (z : ℤ) (m : ℕ) → unsigned_abs z ≤ m → FitsSigned w (pos m) → FitsSigned w z
fits_within w z m h fits = omega (arith, ints)

-- a product alone is held
pub product_held : (w : Width) (xs ys : List ℤ) (i k : ℕ) → FitTogether w xs ys 1 → FitsSigned w (get_or xs i (pos 0) *ℤ get_or ys k (pos 0))
product_held w xs ys i k small =
    fits_within w (get_or xs i (pos 0) *ℤ get_or ys k (pos 0)) (1 * small.bound)
    (omega (arith, unsigned_abs-mul (get_or xs i (pos 0)) (get_or ys k (pos 0)), small.each i k)) small.held

-- what fits together in a narrower type does so in 64 bits
pub fit_wide : (w : Width) (xs ys : List ℤ) (n : ℕ) → ((z : ℤ) → FitsSigned w z → FitsSigned w64 z) → FitTogether w xs ys n → FitTogether w64 xs ys n
fit_wide w xs ys n wider small = record { bound = small.bound; fits = small.fits; held = wider (pos (n * small.bound)) small.held; each = small.each }

-- the numbers of a part fit together with others as those of the whole do
pub fit_part : (w : Width) (xs ys : List ℤ) (from till n : ℕ) → FitTogether w xs ys n → FitTogether w (slice_range xs from till) ys n
fit_part w xs ys from till n small = record { bound = small.bound; fits = small.fits; held = small.held; each = λ i k. each i k (cases_lt i (till - from)) }
  where
    inside : (i k : ℕ) → i < till - from → unsigned_abs (get_or (slice_range xs from till) i (pos 0)) * unsigned_abs (get_or ys k (pos 0)) ≤ small.bound
    inside i k l = subst (λ (z : ℤ). unsigned_abs z * unsigned_abs (get_or ys k (pos 0)) ≤ small.bound) (sym (part_at xs from till i l)) (small.each (from + i) k)

    beyond : (i k : ℕ) → till - from ≤ i → unsigned_abs (get_or (slice_range xs from till) i (pos 0)) * unsigned_abs (get_or ys k (pos 0)) ≤ small.bound
    beyond i k l = subst (λ (z : ℤ). unsigned_abs z * unsigned_abs (get_or ys k (pos 0)) ≤ small.bound) (sym (get_or_past (slice_range xs from till) i (pos 0) (omega (arith, part_length xs from till)))) (omega arith)

    each : (i k : ℕ) → (i < till - from) ⊎ (till - from ≤ i) → unsigned_abs (get_or (slice_range xs from till) i (pos 0)) * unsigned_abs (get_or ys k (pos 0)) ≤ small.bound
    each i k h = ⊎_elim (inside i k) (beyond i k) h

-- the magnitudes of numbers each of which is bounded
magnitudes_below : (p : ℕ → ℤ) (bound a m : ℕ) → ((k : ℕ) → unsigned_abs (p k) ≤ bound) → magnitudes (map p (range_with_len a m)) ≤ m * bound
magnitudes_below p bound a zero each = omega arith
magnitudes_below p bound a (suc m) each = more m bound (unsigned_abs (p a)) (magnitudes (map p (range_with_len (a + 1) m))) (each a) (magnitudes_below p bound (a + 1) m each)
  where
    more : (m b x y : ℕ) → x ≤ b → y ≤ m * b → x + y ≤ suc m * b
    more m b x y h k = omega arith

pub product_below : (w : Width) (xs ys : List ℤ) (width column count k : ℕ) → (small : FitTogether w xs ys count) → unsigned_abs (product_of xs ys width column k) ≤ small.bound
product_below w xs ys width column count k small = omega (arith, unsigned_abs-mul (get_or xs k (pos 0)) (get_or ys (k * width + column) (pos 0)), small.each k (k * width + column))

pub sums_below : (w : Width) (xs ys : List ℤ) (width column count k : ℕ) → (small : FitTogether w xs ys count) → magnitudes (map (product_of xs ys width column) (range_with_len k (count - k))) ≤ count * small.bound
sums_below w xs ys width column count k small =
    let fewer : count - k ≤ count = omega arith in
    omega (
      arith,
      magnitudes_below (product_of xs ys width column) small.bound k (count - k) (λ j. product_below w xs ys width column count j small),
      mul-le-mul_right small.bound fewer,
    )

pub sum_step : (p : ℕ → ℤ) (k n : ℕ) → k < n → sum_from p k n ≡ p k +ℤ sum_from p (k + 1) n
sum_step p k n h = ap (λ (l : List ℕ). total (map p l)) (range_step k n h)

magnitudes_step : (p : ℕ → ℤ) (k n : ℕ) → k < n → magnitudes (map p (range_with_len k (n - k))) ≡ unsigned_abs (p k) + magnitudes (map p (range_with_len (k + 1) (n - (k + 1))))
magnitudes_step p k n h = ap (λ (l : List ℕ). magnitudes (map p l)) (range_step k n h)

-- a product more, before those that are summed
pub sum_more : (w : Width) (xs ys : List ℤ) (width column count k : ℕ) (sum next : ℤ) → FitTogether w xs ys count → k < count → sum ≡ sum_from (product_of xs ys width column) (k + 1) count →
    IsMore w (get_or xs k (pos 0)) (get_or ys (k * width + column) (pos 0)) sum next → next ≡ sum_from (product_of xs ys width column) k count
sum_more w xs ys width column count k sum next small within known more =
    let p : ℕ → ℤ = product_of xs ys width column in
    let all : p k +ℤ sum ≡ sum_from p k count = ap (λ (s : ℤ). p k +ℤ s) known ∙ sym (sum_step p k count within) in
    let room : magnitudes (map p (range_with_len k (count - k))) ≤ count * small.bound = sums_below w xs ys width column count k small in
    let one : unsigned_abs (p k) < 2 ^ 63 = omega (arith, small.fits, magnitudes_step p k count within) in
    let whole : unsigned_abs (sum_from p k count) ≤ count * small.bound = omega (arith, total_small (map p (range_with_len k (count - k)))) in
    let fits : unsigned_abs (p k +ℤ sum) ≤ count * small.bound = omega (arith, ap unsigned_abs all) in
    more (fits_below (p k) one) (fits_within w (p k +ℤ sum) (count * small.bound) fits small.held) ∙ all

-- an item is written, and those behind it stay as they were
pub others_stay : {A : Type 0} (value : A → ℤ) (numbers : List A → List ℤ) → ((xs : List A) → numbers xs ≡ map value xs) → (old : List ℤ) (now : List A) (i : ℕ) (v : A) →
    ((q : ℕ) → i ≤ q → get_or (numbers now) q (pos 0) ≡ get_or old q (pos 0)) → (q : ℕ) → i + 1 ≤ q → get_or (numbers (set now i v)) q (pos 0) ≡ get_or old q (pos 0)
others_stay value numbers each old now i v same q h =
    ap (λ (zs : List ℤ). get_or zs q (pos 0)) (numbers_set value numbers each now i v (value v) refl)
    ∙ get_or-set_other (numbers now) i q (value v) (pos 0) (λ e. absurd (omega arith))
    ∙ same q (omega arith)

-- the sums of a row, by which row it is, how wide and how long
pub row_made : (zs row ys sums : List ℤ) (v w m n : ℕ) → zs ≡ row → v ≡ w → m ≡ n → AreRowSums zs ys v m 0 sums → AreRowSums row ys w n 0 sums
row_made zs row ys sums v w m n e d f made =
    let P : List ℤ → Type 0 = λ l. AreRowSums l ys w n 0 sums in
    let Q : ℕ → Type 0 = λ c. AreRowSums zs ys c n 0 sums in
    let R : ℕ → Type 0 = λ c. AreRowSums zs ys v c 0 sums in
    subst P e (subst Q d (subst R f made))

-- along an axis that does not extend each index is itself
extended_same : (l n k : ℕ) → l ≡ n → k < n → extended_index l k ≡ k
extended_same l n k e h = each (l == 1) refl
  where
    each : (b : Bool) → (l == 1) ≡ b → cond b 0 k ≡ k
    each true f = omega (arith, eqb-true l 1 f)
    each false f = refl

-- values for each are all values
all_made : (f : ℕ → Result ℤ Fault) (p : ℕ → ℤ) (a n : ℕ) → ((k : ℕ) → k < a + n → f k ≡ Ok (p k)) → all_ok f (range_with_len a n) ≡ Ok (map p (range_with_len a n))
all_made f p a zero h = refl
all_made f p a (suc n) h =
    ap (λ (r : Result ℤ Fault). and_then r (λ y. ok_map (λ ys. y ∷ ys) (all_ok f (range_with_len (a + 1) n)))) (h a (omega arith))
    ∙ ap (λ (r : Result (List ℤ) Fault). ok_map (λ ys. p a ∷ ys) r) (all_made f p (a + 1) n (λ k l. h k (omega arith)))

-- what meets at a place
met_products : (xs ys : List ℤ) (j : Joint) (r : ℕ) → j.left ≡ j.joined → j.right ≡ j.joined → FitTogether w64 xs ys j.joined →
    met (dyadic_of two.Times) xs ys j r ≡ Ok (map (product_of (row_in xs j (r / j.columns)) ys j.columns (r % j.columns)) (range_with_len 0 j.joined))
met_products xs ys j r left right small =
    all_made _ (product_of (row_in xs j (r / j.columns)) ys j.columns (r % j.columns)) 0 j.joined
    (λ k h.
    let below : k < j.joined = omega arith in
    let from : ℕ = (r / j.columns) * j.joined in
    let x : ℤ = get_or xs (from + k) (pos 0) in
    let y : ℤ = get_or ys (k * j.columns + r % j.columns) (pos 0) in
    let row : row_place j r k ≡ from + k = ap (λ (n : ℕ). (r / j.columns) * n + extended_index j.left k) left ∙ ap (λ (m : ℕ). from + m) (extended_same j.left j.joined k left below) in
    let column : column_place j r k ≡ k * j.columns + r % j.columns = ap (λ (m : ℕ). m * j.columns + r % j.columns) (extended_same j.right j.joined k right below) in
    let fits : unsigned_abs (x *ℤ y) < 2 ^ 63 = one small.bound (unsigned_abs (x *ℤ y)) j.joined k (omega (arith, unsigned_abs-mul x y, small.each (from + k) (k * j.columns + r % j.columns))) small.fits below in
    ap (λ (m : ℕ). dyadic_of two.Times (get_or xs m (pos 0)) (get_or ys (column_place j r k) (pos 0))) row
    ∙ ap (λ (m : ℕ). dyadic_of two.Times x (get_or ys m (pos 0))) column
    ∙ in_range-fits (x *ℤ y) (fits_below (x *ℤ y) fits)
    ∙ ap (λ (z : ℤ). Ok (z *ℤ y)) (sym (part_at xs from (from + j.joined) k (omega arith))))
  where
    one : (b x n k : ℕ) → x ≤ b → n * b < 2 ^ 63 → k < n → x < 2 ^ 63
    one b x zero k h f l = absurd (omega arith)
    one b x (suc n) k h f l = let whole : b + n * b < 2 ^ 63 = omega arith in omega arith

-- the fold of small numbers, of none too, is their sum
folded_total : (zs : List ℤ) → magnitudes zs < 2 ^ 63 → folded two.Plus (map Num zs) ≡ Ok (total zs)
folded_total [] h = refl
folded_total (z ∷ zs) h = folded_numbers two.Plus (z ∷ zs) (omega arith) ∙ fold_total (z ∷ zs) (omega arith) h

all_whole : {B : Type 0} (f : ℕ → Result B Fault) (p : ℕ → B) (a n : ℕ) → ((k : ℕ) → f k ≡ Ok (p k)) → all_ok f (range_with_len a n) ≡ Ok (map p (range_with_len a n))
all_whole f p a zero h = refl
all_whole {B = B} f p a (suc n) h =
    ap (λ (r : Result B Fault). and_then r (λ y. ok_map (λ ys. y ∷ ys) (all_ok f (range_with_len (a + 1) n)))) (h a)
    ∙ ap (λ (r : Result (List B) Fault). ok_map (λ ys. p a ∷ ys) r) (all_whole f p (a + 1) n h)

-- the sums are the folds of what meets
pub folds_are_sums : (xs ys zs : List ℤ) (j : Joint) → (j.left ≡ j.joined) × (j.right ≡ j.joined) → FitTogether w64 xs ys j.joined → AreSums xs ys j j.rows zs →
    folds_met two.Plus (met (dyadic_of two.Times) xs ys j) j ≡ Ok zs
folds_are_sums xs ys zs j table small sums =
    let row : ℕ → List ℤ = λ r. map (product_of (row_in xs j (r / j.columns)) ys j.columns (r % j.columns)) (range_with_len 0 j.joined) in
    ap (λ (q : Result (List (List ℤ)) Fault). and_then q (λ rows. all_ok (λ row. folded two.Plus (map Num row)) rows))
    (all_whole (met (dyadic_of two.Times) xs ys j) row 0 (j.rows * j.columns) (λ r. met_products xs ys j r table.0 table.1 small))
    ∙ all_ok-map (λ row. folded two.Plus (map Num row)) row (range_with_len 0 (j.rows * j.columns))
    ∙ all_values (λ r. folded two.Plus (map Num (row r))) zs (j.rows * j.columns) sums.size
    (λ r h.
    folded_total (row r) (fits (r / j.columns) (r % j.columns))
    ∙ ap (λ (z : ℤ). Ok z)
    (whole (product_of (row_in xs j (r / j.columns)) ys j.columns (r % j.columns)) j.joined
    ∙ sym (ap (λ (m : ℕ). get_or zs m (pos 0)) (place r j.columns) ∙ sums.each (r / j.columns) (row_below j.rows j.columns r h) (r % j.columns) (rest_below j.rows j.columns r h))))
  where
    none : (n : ℕ) → n ≡ n - 0
    none n = omega arith

    place : (r c : ℕ) → r ≡ (r / c) * c + r % c
    place r c = omega (arith, div-add-mod r c)

    whole : (p : ℕ → ℤ) (n : ℕ) → total (map p (range_with_len 0 n)) ≡ sum_from p 0 n
    whole p n = ap (λ (m : ℕ). total (map p (range_with_len 0 m))) (none n)

    fits : (q c : ℕ) → magnitudes (map (product_of (row_in xs j q) ys j.columns c) (range_with_len 0 j.joined)) < 2 ^ 63
    fits q c =
        let part : FitTogether w64 (row_in xs j q) ys j.joined = fit_part w64 xs ys (q * j.joined) (q * j.joined + j.joined) j.joined small in
        omega (
          arith,
          ap (λ (m : ℕ). magnitudes (map (product_of (row_in xs j q) ys j.columns c) (range_with_len 0 m))) (none j.joined),
          sums_below w64 (row_in xs j q) ys j.columns c j.joined 0 part,
          small.fits,
        )
