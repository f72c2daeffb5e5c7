-- Sums whose magnitudes fit: the fold is the sum, in whatever order it is taken.
use Rattle.std.proofs.Common.{◌≡◌, ℕ, ℤ, pos, ◌+ℤ◌, ◌+◌, ◌-◌, ◌*◌, ◌<◌, ◌≤◌, ◌^◌, List, [], ◌∷◌, ◌++◌, length, get_or, take, drop, Result, Ok, FitsSigned, ap, sym, ◌∙◌, subst, arith, take-append-drop, drop-drop}
use Rattle.std.specs.Prelude.{unsigned_abs}
use Rattle.std.specs.Int.{w64, Width}
use Rattle.std.proofs.lemmas.Int.{ints}
use Rattle.std.proofs.lemmas.List.{take_more, length-append}
use Rattle.apl_faults.specs.declared.fault.Fault.{Fault}
use Rattle.apl_arrays.specs.Results.{and_then}
use Rattle.apl_scalar.specs.declared.function.Dyadic.TheVariants as two
use Rattle.apl_scalar.specs.Functions.{dyadic_of}
use Rattle.apl_scalar.proofs.Signs.{in_range-fits}
use Rattle.apl_folds.specs.Lines.{fold_by}
use Rattle.apl_folds.specs.inside.Sums.{total, magnitudes, HasRoom}

abs-add : (x y : ℤ) → unsigned_abs (x +ℤ y) ≤ unsigned_abs x + unsigned_abs y
abs-add x y = omega (arith, ints)

pub total_small : (xs : List ℤ) → unsigned_abs (total xs) ≤ magnitudes xs
total_small [] = omega arith
total_small (x ∷ xs) = omega (arith, abs-add x (total xs), total_small xs)

pub fits_below : (z : ℤ) → unsigned_abs z < 2 ^ 63 → FitsSigned w64 z
fits_below z h = omega (arith, ints)

-- what is equal to a number that fits
pub fits_along : (x y : ℤ) → x ≡ y → unsigned_abs y < 2 ^ 63 → FitsSigned w64 x
fits_along x y e h =
    let P : ℤ → Type 0 = λ z. FitsSigned w64 z in
    subst P (sym e) (fits_below y h)

none_more : (x : ℤ) → x ≡ x +ℤ pos 0
none_more x = omega (arith, ints)

none_before : (x : ℤ) → x ≡ pos 0 +ℤ x
none_before x = omega (arith, ints)

turned : (x y : ℤ) → x +ℤ y ≡ y +ℤ x
turned x y = omega (arith, ints)

grouped : (x y z : ℤ) → x +ℤ (y +ℤ z) ≡ (x +ℤ y) +ℤ z
grouped x y z = omega (arith, ints)

fold_cons : (f : ℤ → ℤ → Result ℤ Fault) (x w : ℤ) (xs : List ℤ) → fold_by f xs ≡ Ok w → fold_by f (x ∷ xs) ≡ f x w
fold_cons f x w [] e = absurd (cc)
fold_cons f x w (y ∷ ys) e = ap (λ (r : Result ℤ Fault). and_then r (λ z. f x z)) e

-- where the magnitudes leave room, each step of the fold fits, and the fold adds the sum
pub fold_onto : (xs rest : List ℤ) (z : ℤ) → fold_by (dyadic_of two.Plus) rest ≡ Ok z → unsigned_abs z + magnitudes xs < 2 ^ 63 → fold_by (dyadic_of two.Plus) (xs ++ rest) ≡ Ok (total xs +ℤ z)
fold_onto [] rest z e h = e ∙ ap (λ (w : ℤ). Ok w) (none_before z)
fold_onto (x ∷ xs) rest z e h =
    let small : unsigned_abs (x +ℤ (total xs +ℤ z)) < 2 ^ 63 = omega (arith, abs-add x (total xs +ℤ z), abs-add (total xs) z, total_small xs) in
    fold_cons (dyadic_of two.Plus) x (total xs +ℤ z) (xs ++ rest) (fold_onto xs rest z e (omega arith))
    ∙ in_range-fits (x +ℤ (total xs +ℤ z)) (fits_below (x +ℤ (total xs +ℤ z)) small)
    ∙ ap (λ (w : ℤ). Ok w) (grouped x (total xs) z)

-- where the magnitudes fit, the fold is the sum
pub fold_total : (xs : List ℤ) → 0 < length xs → magnitudes xs < 2 ^ 63 → fold_by (dyadic_of two.Plus) xs ≡ Ok (total xs)
fold_total [] h m = absurd (omega arith)
fold_total (x ∷ []) h m = ap (λ (z : ℤ). Ok z) (none_more x)
fold_total (x ∷ y ∷ ys) h m =
    let small : unsigned_abs (x +ℤ total (y ∷ ys)) < 2 ^ 63 = omega (arith, total_small (x ∷ y ∷ ys)) in
    ap (λ (r : Result ℤ Fault). and_then r (λ z. dyadic_of two.Plus x z)) (fold_total (y ∷ ys) (omega arith) (omega arith))
    ∙ in_range-fits (x +ℤ total (y ∷ ys)) (fits_below (x +ℤ total (y ∷ ys)) small)

-- one number more
pub total_more : (xs : List ℤ) (x : ℤ) → total (xs ++ x ∷ []) ≡ total xs +ℤ x
total_more [] x = turned x (pos 0)
total_more (y ∷ ys) x = ap (λ t. y +ℤ t) (total_more ys x) ∙ grouped y (total ys) x

pub magnitudes_more : (xs : List ℤ) (x : ℤ) → magnitudes (xs ++ x ∷ []) ≡ magnitudes xs + unsigned_abs x
magnitudes_more [] x = omega arith
magnitudes_more (y ∷ ys) x = omega (arith, magnitudes_more ys x)

-- one more number of a block
small_more : (xs : List ℤ) (x sum next : ℤ) (i bound spread wide : ℕ) → (bound < 2 ^ 52 → (sum ≡ total xs) × (magnitudes xs ≤ i * 2 ^ 51)) →
    (FitsSigned w64 (sum +ℤ x) → next ≡ sum +ℤ x) → (spread < 2 ^ 52 → unsigned_abs x ≤ 2 ^ 51) → bound ≤ wide → spread ≤ wide → i < 2048 → wide < 2 ^ 52 →
    (next ≡ total (xs ++ x ∷ [])) × (magnitudes (xs ++ x ∷ []) ≤ (i + 1) * 2 ^ 51)
small_more xs x sum next i bound spread wide before added small hb hs l h =
    let low : bound < 2 ^ 52 = omega arith in
    let b : (sum ≡ total xs) × (magnitudes xs ≤ i * 2 ^ 51) = before low in
    let near : spread < 2 ^ 52 = omega arith in
    let s : unsigned_abs x ≤ 2 ^ 51 = small near in
    let m : magnitudes (xs ++ x ∷ []) ≤ (i + 1) * 2 ^ 51 = omega (arith, b.1, magnitudes_more xs x) in
    let t : sum +ℤ x ≡ total (xs ++ x ∷ []) = ap (λ (s : ℤ). s +ℤ x) b.0 ∙ sym (total_more xs x) in
    let fits : unsigned_abs (total (xs ++ x ∷ [])) < 2 ^ 63 = omega (arith, total_small (xs ++ x ∷ [])) in
    (added (fits_along (sum +ℤ x) (total (xs ++ x ∷ [])) t fits) ∙ t, m)

pub small_step : (xs : List ℤ) (i : ℕ) (sum next : ℤ) (bound spread wide : ℕ) → (bound < 2 ^ 52 → (sum ≡ total (take i xs)) × (magnitudes (take i xs) ≤ i * 2 ^ 51)) →
    (FitsSigned w64 (sum +ℤ get_or xs i (pos 0)) → next ≡ sum +ℤ get_or xs i (pos 0)) → (spread < 2 ^ 52 → unsigned_abs (get_or xs i (pos 0)) ≤ 2 ^ 51) → bound ≤ wide → spread ≤ wide →
    i < length xs → length xs ≤ 2048 → wide < 2 ^ 52 → (next ≡ total (take (i + 1) xs)) × (magnitudes (take (i + 1) xs) ≤ (i + 1) * 2 ^ 51)
small_step xs i sum next bound spread wide before added small hb hs l n h =
    let P : List ℤ → Type 0 = λ ys. (next ≡ total ys) × (magnitudes ys ≤ (i + 1) * 2 ^ 51) in
    subst P (sym (take_more xs i (pos 0) l)) (small_more (take i xs) (get_or xs i (pos 0)) sum next i bound spread wide before added small hb hs (omega arith) h)

-- a block that is small before numbers of which the fold is no more than 2 ^ 62
pub small_block : (xs rest : List ℤ) (z sum next : ℤ) → (sum ≡ total xs) × (magnitudes xs ≤ length xs * 2 ^ 51) → length xs ≤ 2048 → unsigned_abs z < 2 ^ 62 →
    (FitsSigned w64 (z +ℤ sum) → next ≡ z +ℤ sum) → fold_by (dyadic_of two.Plus) rest ≡ Ok z → fold_by (dyadic_of two.Plus) (xs ++ rest) ≡ Ok next
small_block xs rest z sum next b n near added e =
    let room : unsigned_abs z + magnitudes xs < 2 ^ 63 = omega (arith, b.1) in
    let t : z +ℤ sum ≡ total xs +ℤ z = ap (λ (s : ℤ). z +ℤ s) b.0 ∙ turned z (total xs) in
    let fits : unsigned_abs (total xs +ℤ z) < 2 ^ 63 = omega (arith, abs-add (total xs) z, total_small xs) in
    fold_onto xs rest z e room ∙ ap (λ (w : ℤ). Ok w) (sym (added (fits_along (z +ℤ sum) (total xs +ℤ z) t fits) ∙ t))

-- a block before the numbers that are summed
pub block_before : (xs : List ℤ) (i j : ℕ) → i ≤ j → take (j - i) (drop i xs) ++ drop j xs ≡ drop i xs
block_before xs i j h =
    ap (λ (l : List ℤ). take (j - i) (drop i xs) ++ l) (sym (drop-drop (j - i) i xs ∙ ap (λ (k : ℕ). drop k xs) (there i j h)))
    ∙ take-append-drop (j - i) (drop i xs)
  where
    there : (i j : ℕ) → i ≤ j → i + (j - i) ≡ j
    there i j h = omega arith

some_numbers : (f : ℤ → ℤ → Result ℤ Fault) (xs : List ℤ) (z : ℤ) → fold_by f xs ≡ Ok z → 0 < length xs
some_numbers f [] z e = absurd (cc)
some_numbers f (x ∷ xs) z e = omega arith

-- what the fold is where the magnitudes fit
fold_is : (xs : List ℤ) (z : ℤ) → magnitudes xs < 2 ^ 63 → fold_by (dyadic_of two.Plus) xs ≡ Ok z → z ≡ total xs
fold_is xs z m e = let t : fold_by (dyadic_of two.Plus) xs ≡ Ok (total xs) = fold_total xs (some_numbers (dyadic_of two.Plus) xs z e) m in cc

-- one number before others
pub sum_before : (xs : List ℤ) (x z v : ℤ) → magnitudes (x ∷ xs) < 2 ^ 63 → fold_by (dyadic_of two.Plus) xs ≡ Ok z → (FitsSigned w64 (x +ℤ z) → v ≡ x +ℤ z) → fold_by (dyadic_of two.Plus) (x ∷ xs) ≡ Ok v
sum_before xs x z v m e added =
    let t : x +ℤ z ≡ total (x ∷ xs) = ap (λ (s : ℤ). x +ℤ s) (fold_is xs z (omega arith) e) in
    fold_total (x ∷ xs) (omega arith) m ∙ ap (λ (s : ℤ). Ok s) (sym (added (fits_along (x +ℤ z) (total (x ∷ xs)) t (omega (arith, total_small (x ∷ xs)))) ∙ t))

-- one number behind others
pub sum_behind : (w : Width) (xs : List ℤ) (x z v : ℤ) → HasRoom w (xs ++ x ∷ []) → fold_by (dyadic_of two.Plus) xs ≡ Ok z → (FitsSigned w (z +ℤ x) → v ≡ z +ℤ x) → fold_by (dyadic_of two.Plus) (xs ++ x ∷ []) ≡ Ok v
sum_behind w xs x z v room e added =
    let t : z +ℤ x ≡ total (xs ++ x ∷ []) = ap (λ (s : ℤ). s +ℤ x) (fold_is xs z (omega (arith, room.magnitudes, magnitudes_more xs x)) e) ∙ sym (total_more xs x) in
    fold_total (xs ++ x ∷ []) (omega (arith, length-append xs (x ∷ []))) room.magnitudes ∙ ap (λ (s : ℤ). Ok s) (sym (added (subst (λ (s : ℤ). FitsSigned w s) (sym t) room.sum) ∙ t))
