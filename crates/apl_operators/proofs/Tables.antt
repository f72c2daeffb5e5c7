-- Tables whose rows stand one after another, and parts of lists.
use Rattle.std.proofs.Common.{◌≡◌, ℕ, ℤ, pos, ◌+◌, ◌-◌, ◌*◌, ◌<◌, ◌≤◌, List, ◌++◌, map, length, take, drop, replicate, get_or, ap, sym, ◌∙◌, subst, arith, ⊎_elim}
use Rattle.std.specs.List.{slice_range}
use Rattle.std.proofs.lemmas.Bool.{cases_lt}
use Rattle.std.proofs.lemmas.List.{get_or-take, get_or-drop, get_or_append_left, get_or-append_right, get_or-replicate, length-append, length-take, length-take-le, length-drop}
use Rattle.std.proofs.lemmas.Nat.{mul-add-lt}
use Rattle.std.proofs.Math.Nat.{mul-le-mul_right}
use Rattle.apl_scalar.proofs.OfLanes.{as_many, numbers-take, numbers-drop}
use Rattle.apl_operators.specs.inside.Tables.{AreRows}

-- a row more is within the table
pub row_within : (r n w m : ℕ) → r < n → m ≡ n * w → r * w + w ≤ m
row_within r n w m h e = omega (arith, e, mul-le-mul_right w (above r n h))
  where
    above : (r n : ℕ) → r < n → r + 1 ≤ n
    above r n h = omega arith

-- a part of a list
pub part_at : (xs : List ℤ) (from till k : ℕ) → k < till - from → get_or (slice_range xs from till) k (pos 0) ≡ get_or xs (from + k) (pos 0)
part_at xs from till k h = get_or-take (till - from) (drop from xs) k (pos 0) h ∙ get_or-drop from xs k (pos 0)

-- its numbers
pub numbers_part : {A : Type 0} (value : A → ℤ) (numbers : List A → List ℤ) → ((xs : List A) → numbers xs ≡ map value xs) → (xs : List A) (from till : ℕ) → numbers (slice_range xs from till) ≡ slice_range (numbers xs) from till
numbers_part value numbers each xs from till = numbers-take value numbers each (till - from) (drop from xs) ∙ ap (take (till - from)) (numbers-drop value numbers each from xs)

-- and how long it is
pub part_whole : {A : Type 0} (xs : List A) (from n : ℕ) → from + n ≤ length xs → length (slice_range xs from (from + n)) ≡ n
part_whole xs from n h = length-take-le (from + n - from) (drop from xs) (omega (arith, length-drop from xs)) ∙ same from n
  where
    same : (a n : ℕ) → a + n - a ≡ n
    same a n = omega arith

pub part_length : (xs : List ℤ) (from till : ℕ) → length (slice_range xs from till) ≤ till - from
part_length xs from till = omega (arith, length-take (till - from) (drop from xs))

-- a row more
pub row_added : (P : ℕ → ℕ → ℤ → Type 0) (columns r : ℕ) (old row : List ℤ) → AreRows P columns r old → length row ≡ columns → ((q : ℕ) → q < columns → P r q (get_or row q (pos 0))) → AreRows P columns (r + 1) (old ++ row)
row_added P columns r old row before size made = record {
  size = omega (arith, length-append old row, before.size, size);
  each = λ s l q m. ⊎_elim (early s q m) (late s l q m) (cases_lt s r);
}
  where
    early : (s q : ℕ) → q < columns → s < r → P s q (get_or (old ++ row) (s * columns + q) (pos 0))
    early s q m l = subst (P s q) (sym (get_or_append_left old row (pos 0) (s * columns + q) (omega (arith, before.size, mul-add-lt s columns q r l m)))) (before.each s l q m)

    level : (s q : ℕ) → s ≡ r → r * columns ≤ s * columns + q
    level s q e = rw e (omega arith)

    rest : (s q : ℕ) → s ≡ r → s * columns + q - r * columns ≡ q
    rest s q e = rw e (omega arith)

    late : (s : ℕ) → s < r + 1 → (q : ℕ) → q < columns → r ≤ s → P s q (get_or (old ++ row) (s * columns + q) (pos 0))
    late s l q m k =
        let same : s ≡ r = omega arith in
        let there : get_or (old ++ row) (s * columns + q) (pos 0) ≡ get_or row q (pos 0) =
        get_or-append_right old row (r * columns) (s * columns + q) (pos 0) before.size (level s q same) ∙ ap (λ (n : ℕ). get_or row n (pos 0)) (rest s q same)
        in
        subst (λ (n : ℕ). P n q (get_or (old ++ row) (s * columns + q) (pos 0))) (sym same) (subst (P r q) (sym there) (made q m))

-- behind a list that has grown by zeros these stand
pub zeros_behind : {A : Type 0} (value : A → ℤ) (numbers : List A → List ℤ) → ((xs : List A) → numbers xs ≡ map value xs) → (old grown shown back : List A) (n before q : ℕ) → numbers grown ≡ numbers old ++ replicate n (pos 0) →
    before ≡ length old → shown ≡ grown → back ≡ drop before shown → q < n → get_or (numbers back) q (pos 0) ≡ pos 0
zeros_behind {A = A} value numbers each old grown shown back n before q g b e d h =
    let front : length (numbers old) ≡ before = as_many value numbers each old ∙ sym b in
    ap (λ (zs : List ℤ). get_or zs q (pos 0))
    (ap numbers (d ∙ ap (drop before) e) ∙ numbers-drop value numbers each before grown ∙ ap (drop before) g)
    ∙ get_or-drop before (numbers old ++ replicate n (pos 0)) q (pos 0)
    ∙ get_or-append_right (numbers old) (replicate n (pos 0)) before (before + q) (pos 0) front (omega arith)
    ∙ ap (λ (k : ℕ). get_or (replicate n (pos 0)) k (pos 0)) (rest before q)
    ∙ get_or-replicate n q (pos 0) (pos 0) h
  where
    rest : (m q : ℕ) → m + q - m ≡ q
    rest m q = omega arith
