-- Digits in rows, one for each base.
use Rattle.std.proofs.Common.{◌≡◌, ◌≢◌, ℕ, ℤ, pos, zero, suc, ◌+◌, ◌*◌, ◌/◌, ◌%◌, ◌<◌, ◌≤◌, List, [], ◌∷◌, ◌++◌, map, length, get_or, set, take, drop, Result, Ok, Err, Bool, true, false, ltb, cond, refl, ap, sym, subst, ◌∙◌, append-nil, arith}
use Rattle.std.proofs.Math.Nat.{div-add-mod, div-lt_iff_lt-mul, mod-lt}
use Rattle.std.proofs.lemmas.Bool.{ltb-false, ltb-true}
use Rattle.std.proofs.lemmas.List.{length-append, length-map, drop_more, drop_all, take_all, get_or-map, get_or_append_left, get_or-append-add, get_or-set_same, get_or-set_other}
use Rattle.apl_faults.specs.declared.fault.Fault.{Fault}
use Rattle.apl_faults.specs.declared.fault.Fault.TheVariants.{Limit}
use Rattle.apl_arrays.specs.Results.{and_then, ok_map, all_ok}
use Rattle.apl_scalar.specs.Functions.{residue, is_in_range, in_range}
use Rattle.apl_search.specs.Encoded.{left_of, left_by, digits_by}
use Rattle.apl_search.specs.inside.Rows.{digit_in_row, HasDigits, KeepsBefore, LacksDigit}
use Rattle.apl_search.proofs.Digits.{row_below}

-- a place among all of the rows tells the row and the place in it
apart : (k j i c w : ℕ) → i < w → c < w → k * w + i ≡ j * w + c → (k ≡ j) × (i ≡ c)
apart zero zero i c w h l e = (refl, omega arith)
apart zero (suc j) i c w h l e = absurd (let s : suc j * w ≡ w + j * w = omega arith in omega arith)
apart (suc k) zero i c w h l e = absurd (let s : suc k * w ≡ w + k * w = omega arith in omega arith)
apart (suc k) (suc j) i c w h l e =
    let s : suc k * w ≡ w + k * w = omega arith in
    let t : suc j * w ≡ w + j * w = omega arith in
    let p = apart k j i c w h l (omega arith) in
    (ap suc p.0, p.1)

-- what the bases from a row on leave, and the digits of that row and of those behind it
pub rests_step : (bases : List ℤ) (r base rest left : ℤ) (row : ℕ) → row < length bases → base ≡ get_or bases row (pos 0) → rest ≡ left_by (drop (row + 1) bases) r → left ≡ left_of base rest →
    left ≡ left_by (drop row bases) r
rests_step bases r base rest left row h b e l =
    l
    ∙ ap (left_of base) e
    ∙ ap (λ (z : ℤ). left_of z (left_by (drop (row + 1) bases) r)) b
    ∙ ap (λ (zs : List ℤ). left_by zs r) (sym (drop_more bases row (pos 0) h))

pub digit_here : (bases : List ℤ) (r base rest digit : ℤ) (row : ℕ) → base ≡ get_or bases row (pos 0) → rest ≡ left_by (drop (row + 1) bases) r → digit ≡ residue base rest → digit ≡ digit_in_row bases r row
digit_here bases r base rest digit row b e d = d ∙ ap (residue base) e ∙ ap (λ (z : ℤ). residue z (left_by (drop (row + 1) bases) r)) b

pub digits_step : (bases rs : List ℤ) (place row : ℕ) (rows : List ℤ) (digit : ℤ) → row < length bases → place < length rs → length rows ≡ length bases * length rs →
    in_range (digit_in_row bases (get_or rs place (pos 0)) row) ≡ Ok digit → HasDigits bases rs place (row + 1) rows → HasDigits bases rs place row (set rows (row * length rs + place) digit)
digits_step bases rs place row rows digit h p n d before = λ j above below. each j above below (ltb row j) refl
  where
    each : (j : ℕ) → row ≤ j → j < length bases → (b : Bool) → ltb row j ≡ b →
        in_range (digit_in_row bases (get_or rs place (pos 0)) j) ≡ Ok (get_or (set rows (row * length rs + place) digit) (j * length rs + place) (pos 0))
    each j above below true e =
        let less : row < j = ltb-true row j e in
        let other : j * length rs + place ≢ row * length rs + place = λ same. absurd (let q = apart j row place place (length rs) p p same in omega (arith, q.0)) in
        before j (omega arith) below ∙ ap (λ (z : ℤ). Ok z) (sym (get_or-set_other rows (row * length rs + place) (j * length rs + place) digit (pos 0) other))
    each j above below false e =
        let same : row ≡ j = omega (arith, ltb-false row j e) in
        let P : ℕ → Type 0 = λ m. in_range (digit_in_row bases (get_or rs place (pos 0)) m) ≡ Ok (get_or (set rows (row * length rs + place) digit) (m * length rs + place) (pos 0)) in
        let there : row * length rs + place < length bases * length rs = row_below (length bases) (length rs) row place h p in
        subst P same (d ∙ ap (λ (z : ℤ). Ok z) (sym (get_or-set_same rows (row * length rs + place) digit (pos 0) (omega arith))))

-- nothing before the place is written
pub kept_step : (width place row : ℕ) (old rows : List ℤ) (digit : ℤ) → place < width → KeepsBefore width place old rows → KeepsBefore width place old (set rows (row * width + place) digit)
kept_step width place row old rows digit p before = λ j i h.
    let other : j * width + i ≢ row * width + place = λ same. absurd (let q = apart j row i place width (omega arith) p same in omega (arith, q.1)) in
    get_or-set_other rows (row * width + place) (j * width + i) digit (pos 0) other ∙ before j i h

-- what is written into all of a vector is all that it has
pub written_back : (old new : List ℤ) (n : ℕ) → n ≡ length old → length new ≡ length old → take n (new ++ drop (length new) old) ≡ new
written_back old new n h l =
    ap (λ (zs : List ℤ). take n (new ++ zs)) (drop_all (length new) old (omega arith)) ∙ ap (take n) (append-nil new) ∙ take_all n new (omega arith)

-- the digits of the numbers before a place
abbrev pub HasBefore : List ℤ → List ℤ → ℕ → List ℤ → Type 0
HasBefore bases rs place rows = (i : ℕ) → i < place → HasDigits bases rs i 0 rows

-- one number more
pub before_step : (bases rs : List ℤ) (place : ℕ) (old rows : List ℤ) → HasBefore bases rs place old → KeepsBefore (length rs) place old rows → HasDigits bases rs place 0 rows → HasBefore bases rs (place + 1) rows
before_step bases rs place old rows before kept here = λ i h. each i h (ltb i place) refl
  where
    each : (i : ℕ) → i < place + 1 → (b : Bool) → ltb i place ≡ b → HasDigits bases rs i 0 rows
    each i h true e = λ row above below. before i (ltb-true i place e) row above below ∙ ap (λ (z : ℤ). Ok z) (sym (kept row i (ltb-true i place e)))
    each i h false e =
        let same : place ≡ i = omega (arith, ltb-false i place e) in
        let P : ℕ → Type 0 = λ m. HasDigits bases rs m 0 rows in
        subst P same here

-- as many digits as numbers for each base
pub length-digits : (bases rs : List ℤ) → length (digits_by bases rs) ≡ length bases * length rs
length-digits [] rs = omega arith
length-digits (base ∷ bases) rs =
    length-append (map (λ r. residue base (left_by bases r)) rs) (digits_by bases rs)
    ∙ ap (λ (n : ℕ). n + length (digits_by bases rs)) (length-map rs (λ r. residue base (left_by bases r)))
    ∙ ap (λ (n : ℕ). length rs + n) (length-digits bases rs)
    ∙ more (length bases) (length rs)
  where
    more : (m n : ℕ) → n + m * n ≡ suc m * n
    more m n = omega arith

-- the digit at a place of a row
pub digit_at_place : (bases rs : List ℤ) (row i : ℕ) → row < length bases → i < length rs → get_or (digits_by bases rs) (row * length rs + i) (pos 0) ≡ digit_in_row bases (get_or rs i (pos 0)) row
digit_at_place [] rs row i h l = absurd (omega arith)
digit_at_place (base ∷ bases) rs zero i h l =
    let f : ℤ → ℤ = λ r. residue base (left_by bases r) in
    let size : length (map f rs) ≡ length rs = length-map rs f in
    let here : 0 * length rs + i ≡ i = omega arith in
    ap (λ (n : ℕ). get_or (map f rs ++ digits_by bases rs) n (pos 0)) here ∙ get_or_append_left (map f rs) (digits_by bases rs) (pos 0) i (omega arith) ∙ get_or-map f rs i (pos 0) (pos 0) l
digit_at_place (base ∷ bases) rs (suc row) i h l =
    let f : ℤ → ℤ = λ r. residue base (left_by bases r) in
    let size : length (map f rs) ≡ length rs = length-map rs f in
    let next : suc row * length rs + i ≡ length (map f rs) + (row * length rs + i) = omega arith in
    let behind : suc (row + 1) ≡ suc row + 1 = omega arith in
    ap (λ (n : ℕ). get_or (map f rs ++ digits_by bases rs) n (pos 0)) next
    ∙ get_or-append-add (map f rs) (digits_by bases rs) (row * length rs + i) (pos 0)
    ∙ digit_at_place bases rs row i (omega arith) l
    ∙ ap (λ (n : ℕ). residue (get_or bases row (pos 0)) (left_by (drop n (base ∷ bases)) (get_or rs i (pos 0)))) behind

-- answers place by place are the answers for a list
all_there : (xs ys : List ℤ) → length xs ≡ length ys → ((k : ℕ) → k < length xs → in_range (get_or xs k (pos 0)) ≡ Ok (get_or ys k (pos 0))) → all_ok in_range xs ≡ Ok ys
all_there [] [] n h = refl
all_there [] (y ∷ ys) n h = absurd (omega arith)
all_there (x ∷ xs) [] n h = absurd (omega arith)
all_there (x ∷ xs) (y ∷ ys) n h =
    ap (λ (r : Result ℤ Fault). and_then r (λ z. ok_map (λ l. z ∷ l) (all_ok in_range xs))) (h 0 (omega arith))
    ∙ ap (ok_map (λ (l : List ℤ). y ∷ l)) (all_there xs ys (omega arith) (λ k l. h (suc k) (omega arith)))

-- a fault anywhere is the fault of the list, since all are alike
one_lacks : (xs : List ℤ) (k : ℕ) (fault : Fault) → k < length xs → in_range (get_or xs k (pos 0)) ≡ Err fault → all_ok in_range xs ≡ Err fault
one_lacks [] k fault h e = absurd (omega arith)
one_lacks (x ∷ xs) zero fault h e = ap (λ (r : Result ℤ Fault). and_then r (λ z. ok_map (λ l. z ∷ l) (all_ok in_range xs))) e
one_lacks (x ∷ xs) (suc k) fault h e = each (is_in_range x) refl (one_lacks xs k fault (omega arith) e)
  where
    alike : (b : Bool) (z : ℤ) → (let r : Result ℤ Fault = cond b (Ok z) (Err Limit) in r) ≡ Err fault → Limit ≡ fault
    alike true z e = absurd (cc)
    alike false z e = cc

    each : (b : Bool) → is_in_range x ≡ b → all_ok in_range xs ≡ Err fault → all_ok in_range (x ∷ xs) ≡ Err fault
    each true b r =
        ap (λ (p : Bool). and_then (let r : Result ℤ Fault = cond p (Ok x) (Err Limit) in r) (λ z. ok_map (λ l. z ∷ l) (all_ok in_range xs))) b
        ∙ ap (ok_map (λ (l : List ℤ). x ∷ l)) r
    each false b r =
        ap (λ (p : Bool). and_then (let r : Result ℤ Fault = cond p (Ok x) (Err Limit) in r) (λ z. ok_map (λ l. z ∷ l) (all_ok in_range xs))) b
        ∙ ap (λ (f : Fault). Err f) (alike (is_in_range (get_or xs k (pos 0))) (get_or xs k (pos 0)) e)

-- the row of a place, and the place in it
split : (k m w : ℕ) → k < m * w → (row : ℕ) × (i : ℕ) × (row < m) × (i < w) × (row * w + i ≡ k)
split k m zero h = absurd (let none : m * 0 ≡ 0 = omega arith in omega arith)
split k m (suc w) h =
    let whole : suc w * (k / suc w) + k % suc w ≡ k = div-add-mod k (suc w) in
    let turned : k / suc w * suc w ≡ suc w * (k / suc w) = omega arith in
    (k / suc w, k % suc w, (div-lt_iff_lt-mul (omega arith)).1 h, mod-lt k (omega arith), omega arith)

-- where each number has its digits, these are all
pub digits_in_rows : (bases rs rows : List ℤ) (place : ℕ) → length rows ≡ length bases * length rs → length rs ≤ place → HasBefore bases rs place rows → all_ok in_range (digits_by bases rs) ≡ Ok rows
digits_in_rows bases rs rows place n h before = all_there (digits_by bases rs) rows (length-digits bases rs ∙ sym n) (λ k l. each k (let size = length-digits bases rs in omega arith))
  where
    each : (k : ℕ) → k < length bases * length rs → in_range (get_or (digits_by bases rs) k (pos 0)) ≡ Ok (get_or rows k (pos 0))
    each k l =
        let s = split k (length bases) (length rs) l in
        let P : ℕ → Type 0 = λ m. in_range (get_or (digits_by bases rs) m (pos 0)) ≡ Ok (get_or rows m (pos 0)) in
        subst P s.4 (ap in_range (digit_at_place bases rs s.0 s.1 s.2 s.3) ∙ before s.1 (omega (arith, s.3)) s.0 (omega arith) s.2)

-- where a number lacks a digit, all have its fault
pub fault_in_rows : (bases rs : List ℤ) (place : ℕ) (fault : Fault) → place < length rs → LacksDigit bases rs place fault → all_ok in_range (digits_by bases rs) ≡ Err fault
fault_in_rows bases rs place fault p lacks =
    let size : length (digits_by bases rs) ≡ length bases * length rs = length-digits bases rs in
    let below : lacks.0 * length rs + place < length bases * length rs = row_below (length bases) (length rs) lacks.0 place lacks.1 p in
    one_lacks (digits_by bases rs) (lacks.0 * length rs + place) fault (omega arith)
    (ap in_range (digit_at_place bases rs lacks.0 place lacks.1 p) ∙ lacks.2)
