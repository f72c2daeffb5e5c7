-- What the checks of decoding leave, and the values by flat places.
use Rattle.std.proofs.Common.{◌≡◌, ℕ, ℤ, pos, suc, ◌+◌, ◌*◌, ◌<◌, ◌≤◌, Bool, true, false, eqb, List, [], ◌∷◌, map, length, Result, Ok, Err, refl, ap, sym, ◌∙◌, arith}
use Rattle.std.specs.List.{range_with_len}
use Rattle.std.proofs.Math.Nat.{mul-le-mul_right}
use Rattle.std.proofs.lemmas.Bool.{eqb-true}
use Rattle.std.proofs.lemmas.List.{length-map}
use Rattle.apl_faults.specs.declared.fault.Fault.{Fault}
use Rattle.apl_arrays.specs.declared.cell.Cell.TheVariants.{Num}
use Rattle.apl_arrays.specs.Index.{size_of, indices}
use Rattle.apl_arrays.specs.Cells.{Arr, Items, Numbers, Characters, cells_of}
use Rattle.apl_arrays.specs.Checks.{vector_rank, numbers_of, count_of}
use Rattle.apl_arrays.specs.Results.{and_then, ok_map, all_ok}
use Rattle.apl_arrays.proofs.Order.{by_places}
use Rattle.apl_search.specs.Decoded.{bases_and_digits, base_and_digit, decode, first_length, joined_count, served, shape_behind, valued}
use Rattle.apl_search.specs.inside.Flat.{pair_at}

parts : {A : Type 0} (r : Result A Fault) (s : Result ℕ Fault) (t u : Result (List ℤ) Fault) (p : List ℤ × List ℤ × ℕ) →
    and_then r (λ x. and_then s (λ n. and_then t (λ ws. ok_map (λ ds. (ws, ds, n)) u))) ≡ Ok p → (s ≡ Ok p.2) × (t ≡ Ok p.0) × (u ≡ Ok p.1)
parts (Ok x) (Ok n) (Ok ws) (Ok ds) p e =
    let same : (ws, ds, n) ≡ p = cc in
    (ap (λ (q : List ℤ × List ℤ × ℕ). Ok q.2) same, ap (λ (q : List ℤ × List ℤ × ℕ). Ok q.0) same, ap (λ (q : List ℤ × List ℤ × ℕ). Ok q.1) same)
parts (Ok x) (Ok n) (Ok ws) (Err f) p e = absurd (cc)
parts (Ok x) (Ok n) (Err f) u p e = absurd (cc)
parts (Ok x) (Err f) t u p e = absurd (cc)
parts (Err f) s t u p e = absurd (cc)

-- as many numbers as elements
pub numbers_length : (items : Items) (zs : List ℤ) → numbers_of items ≡ Ok zs → length zs ≡ length (cells_of items)
numbers_length (Numbers ys) zs e = let same : ys ≡ zs = cc in ap (λ (l : List ℤ). length l) (sym same) ∙ sym (length-map ys Num)
numbers_length (Characters []) zs e = let same : [] ≡ zs = cc in ap (λ (l : List ℤ). length l) (sym same)
numbers_length (Characters (c ∷ cs)) zs e = absurd (cc)

-- a place that serves is one of the axis
served_below : (m n c k : ℕ) → joined_count m n ≡ Ok c → k < c → served n k < n
served_below m n c k e h = each (eqb m 1) (eqb n 1) (eqb m n) refl refl refl
  where
    here : (c d : ℕ) → (let r : Result ℕ Fault = Ok c in r) ≡ Ok d → c ≡ d
    here c d e = cc

    each : (p q r : Bool) → eqb m 1 ≡ p → eqb n 1 ≡ q → eqb m n ≡ r → served n k < n
    each p true r ep eq er = let one = eqb-true n 1 eq in simp eq (omega arith)
    each true false r ep eq er = let same = here n c (sym (simp ep) ∙ e) in simp eq (omega arith)
    each false false true ep eq er = let same = here n c (sym (simp (ep, eq, er)) ∙ e) in simp eq (omega arith)
    each false false false ep eq er = absurd (let bad : Err Rattle.apl_faults.specs.declared.fault.Fault.TheVariants.Length ≡ Ok c = sym (simp (ep, eq, er)) ∙ e in cc)

served_count : (m n c k : ℕ) → joined_count m n ≡ Ok c → k < c → served m k < m
served_count m n c k e h = each (eqb m 1) (eqb n 1) (eqb m n) refl refl refl
  where
    here : (c d : ℕ) → (let r : Result ℕ Fault = Ok c in r) ≡ Ok d → c ≡ d
    here c d e = cc

    each : (p q r : Bool) → eqb m 1 ≡ p → eqb n 1 ≡ q → eqb m n ≡ r → served m k < m
    each true q r ep eq er = let one = eqb-true m 1 ep in simp ep (omega arith)
    each false true r ep eq er = let same = here m c (sym (simp (ep, eq)) ∙ e) in simp ep (omega arith)
    each false false true ep eq er = let same = here n c (sym (simp (ep, eq, er)) ∙ e) in let equal = eqb-true m n er in simp ep (omega arith)
    each false false false ep eq er = absurd (let bad : Err Rattle.apl_faults.specs.declared.fault.Fault.TheVariants.Length ≡ Ok c = sym (simp (ep, eq, er)) ∙ e in cc)

size_of_both : (s : List ℕ) → size_of s ≡ first_length s * size_of (shape_behind s)
size_of_both [] = refl
size_of_both (n ∷ ns) = refl

-- a place in rows is among all of theirs
pub row_below : (n w s p : ℕ) → s < n → p < w → s * w + p < n * w
row_below n w s p h k =
    let most : suc s * w ≤ n * w = mul-le-mul_right w h in
    let next : suc s * w ≡ s * w + w = omega arith in
    omega arith

-- what the checks let through, as it was read
pub read : (a b : Arr) (xs ys ws ds : List ℤ) (n : ℕ) → bases_and_digits a b ≡ Ok (xs, ys, n) → ws ≡ xs → ds ≡ ys → bases_and_digits a b ≡ Ok (ws, ds, n)
read a b xs ys ws ds n e f g = rw (f, g) e

-- each base is there
pub bases_there : (a b : Arr) (ws ds : List ℤ) (n : ℕ) → bases_and_digits a b ≡ Ok (ws, ds, n) → (k : ℕ) → k < n → served (length ws) k < length ws
bases_there a b ws ds n e k h =
    let p = parts (vector_rank a) (joined_count (count_of a) (first_length b.shape)) (numbers_of a.items) (numbers_of b.items) (ws, ds, n) e in
    let len : length ws ≡ count_of a = numbers_length a.items ws p.1 in
    rw len (served_count (count_of a) (first_length b.shape) n k p.0 h)

-- each digit is there
pub digits_there : (a b : Arr) (ws ds : List ℤ) (n along width : ℕ) → bases_and_digits a b ≡ Ok (ws, ds, n) → along ≡ first_length b.shape → width ≡ size_of (shape_behind b.shape) →
    length (cells_of b.items) ≡ size_of b.shape → (k p : ℕ) → k < n → p < width → served along k * width + p < length ds
digits_there a b ws ds n along width e f g full k p h l =
    let q = parts (vector_rank a) (joined_count (count_of a) (first_length b.shape)) (numbers_of a.items) (numbers_of b.items) (ws, ds, n) e in
    let below : served (first_length b.shape) k < first_length b.shape = served_below (count_of a) (first_length b.shape) n k q.0 h in
    let there : served along k < along = rw f below in
    let size : length ds ≡ along * width = numbers_length b.items ds q.2 ∙ full ∙ size_of_both b.shape ∙ rw (f, g) refl in
    rw size (row_below along width (served along k) p there l)

-- the values by flat places
pub decode_ok : (a b : Arr) (ws ds : List ℤ) (n along width : ℕ) (ns : List ℕ) → bases_and_digits a b ≡ Ok (ws, ds, n) → ns ≡ shape_behind b.shape → along ≡ first_length b.shape → width ≡ size_of (shape_behind b.shape) →
    decode a b ≡ ok_map (λ values. record { shape = ns; items = Numbers values }) (all_ok (λ p. valued (pos 0) (map (pair_at ws ds along width p) (range_with_len 0 n))) (range_with_len 0 width))
decode_ok a b ws ds n along width ns e f g h =
    ap (λ (r : Result (List ℤ × List ℤ × ℕ) Fault). and_then r (λ p.
    ok_map (λ values. let made : Arr = record { shape = shape_behind b.shape; items = Numbers values } in made)
    (all_ok (λ i. valued (pos 0) (map (base_and_digit p.0 b.shape p.1 i) (range_with_len 0 p.2))) (indices (shape_behind b.shape))))) e
    ∙ ap (λ (r : Result (List ℤ) Fault). ok_map (λ values. let made : Arr = record { shape = shape_behind b.shape; items = Numbers values } in made) r)
    (by_places (shape_behind b.shape) (λ p. valued (pos 0) (map (pair_at ws ds (first_length b.shape) (size_of (shape_behind b.shape)) p) (range_with_len 0 n))))
    ∙ rw (f, g, h) refl
