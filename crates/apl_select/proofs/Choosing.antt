-- The places that zeros and ones choose.
use Rattle.std.proofs.Common.{zero, suc, ◌≡◌, ℕ, ℤ, pos, ◌+◌, ◌<◌, ◌||◌, ◌==◌, Bool, true, false, cond, List, [], ◌∷◌, ◌++◌, map, take, length, get_or, refl, ap, sym, ◌∙◌, arith, add-one, append-nil, Option, None, Some, Ok, Err}
use Rattle.std.specs.Prelude.{count_by}
use Rattle.std.specs.List.{filter, list_all, range_with_len, AllByRecursion, All}
use Rattle.std.proofs.lemmas.Bool.{eqb-true}
use Rattle.std.proofs.lemmas.List.{map-append}
use Rattle.std.proofs.lemmas.List.Elements.{filter-append}
use Rattle.std.proofs.lemmas.List.Sums.{length-filter}
use Rattle.std.proofs.lemmas.List.FromFn.{map-range_with_len_more}
use Rattle.apl_faults.specs.declared.fault.Fault.TheVariants.{Domain, Length}
use Rattle.apl_arrays.specs.Cells.{Items, Numbers, Characters}
use Rattle.apl_arrays.specs.Checks.{demand}
use Rattle.apl_arrays.specs.Results.{ok_map}
use Rattle.apl_arrays.proofs.InTurn.{range_below}
use Rattle.apl_select.specs.Compress.{is_one, is_bit, bits_of, ones, common_count, kept, spread, spread_at}
use Rattle.apl_select.specs.inside.Laying.{IsBelow}
use Rattle.apl_select.specs.Lined.{place_served}
use Rattle.apl_select.proofs.Lists.{range_more, all_mapped}

-- one number more
pub kept_more : (bits : List ℤ) (n k : ℕ) (t : Bool) → is_one (get_or bits (place_served (length bits) k) (pos 0)) ≡ t → kept bits n (k + 1) ≡ kept bits n k ++ cond t (Some (place_served n k) ∷ []) []
kept_more bits n k t e =
    ap (λ m. kept bits n m) (add-one k)
    ∙ ap (λ l. map place (filter test l)) (range_more 0 k)
    ∙ ap (map place) (filter-append test (range_with_len 0 k) ((0 + k) ∷ []))
    ∙ map-append place (filter test (range_with_len 0 k)) (filter test ((0 + k) ∷ []))
    ∙ ap (λ j. kept bits n k ++ map place (filter test (j ∷ []))) (none k)
    ∙ ap (λ b. kept bits n k ++ map place (cond b (k ∷ []) [])) e
    ∙ ap (λ l. kept bits n k ++ l) (inside t)
  where
    test : ℕ → Bool
    test k = is_one (get_or bits (place_served (length bits) k) (pos 0))

    place : ℕ → Option ℕ
    place k = Some (place_served n k)

    none : (k : ℕ) → 0 + k ≡ k
    none k = omega arith

    inside : (b : Bool) → map place (cond b (k ∷ []) []) ≡ cond b (Some (place_served n k) ∷ []) []
    inside true = refl
    inside false = refl

-- places of as many items as there are of both are places on the axis
pub extended_below : (m n count k : ℕ) → common_count m n ≡ Ok count → k < count → place_served n k < n
extended_below m n count k e l = at (m == 1) (n == 1) (m == n) (λ h. eqb-true n 1 h) e
  where
    at : (a b c : Bool) → (b ≡ true → n ≡ 1) → cond a (Ok n) (cond b (Ok m) (cond c (Ok n) (Err Length))) ≡ Ok count → cond b 0 k < n
    at a true c one e = omega (arith, one refl)
    at true false c one e = let s : n ≡ count = cc in omega arith
    at false false true one e = let s : n ≡ count = cc in omega arith
    at false false false one e = absurd (cc)

all_filtered : (P : ℕ → Type 0) (p : ℕ → Bool) (xs : List ℕ) → AllByRecursion P xs → AllByRecursion P (filter p xs)
all_filtered P p [] a = tt
all_filtered P p (x ∷ xs) a = either (p x) (all_filtered P p xs a.1)
  where
    either : (b : Bool) → AllByRecursion P (filter p xs) → AllByRecursion P (cond b (x ∷ filter p xs) (filter p xs))
    either true r = (a.0, r)
    either false r = r

pub kept_below : (bits : List ℤ) (m n count : ℕ) (places : List (Option ℕ)) → places ≡ kept bits n count → common_count m n ≡ Ok count → All (IsBelow n) places
kept_below bits m n count places e h =
    rw e (all_mapped (IsBelow n) (λ k. k < count) (λ k. Some (place_served n k)) (λ k l. extended_below m n count k h l)
    (filter (λ k. is_one (get_or bits (place_served (length bits) k) (pos 0))) (range_with_len 0 count))
    (all_filtered (λ k. k < count) (λ k. is_one (get_or bits (place_served (length bits) k) (pos 0))) (range_with_len 0 count) (range_below 0 count count (omega arith))))

-- there are fewer ones before a one than in all
fewer : (xs : List ℤ) (k : ℕ) → k < length xs → is_one (get_or xs k (pos 0)) ≡ true → length (filter is_one (take k xs)) < length (filter is_one xs)
fewer [] k l h = absurd (omega arith)
fewer (x ∷ xs) zero l h = rw h (omega arith)
fewer (x ∷ xs) (suc k) l h = each (is_one x) (filter is_one (take k xs)) (filter is_one xs) (fewer xs k (omega arith) h)
  where
    each : (b : Bool) (ys zs : List ℤ) → length ys < length zs → length (cond b (x ∷ ys) ys) < length (cond b (x ∷ zs) zs)
    each true ys zs l = omega arith
    each false ys zs l = l

count_before : (xs : List ℤ) (k : ℕ) → k < length xs → is_one (get_or xs k (pos 0)) ≡ true → count_by is_one (take k xs) < count_by is_one xs
count_before xs k l h = omega (arith, fewer xs k l h, length-filter is_one (take k xs), length-filter is_one xs)

-- the ones among bits are those of the elements
ones_of : (items : Items) (bits : List ℤ) → bits_of items ≡ Ok bits → ones items ≡ count_by is_one bits
ones_of (Numbers zs) bits e = ap (count_by is_one) (passed (is_all zs) e)
  where
    is_all : List ℤ → Bool
    is_all zs = list_all is_bit zs

    passed : (b : Bool) → ok_map (λ u. zs) (demand b Domain) ≡ Ok bits → zs ≡ bits
    passed true e = cc
    passed false e = absurd (cc)
ones_of (Characters []) bits e = let s : [] ≡ bits = cc in ap (count_by is_one) s
ones_of (Characters (c ∷ cs)) bits e = absurd (cc)

pub spread_below : (items : Items) (bits : List ℤ) (n : ℕ) (places : List (Option ℕ)) → places ≡ spread bits n → bits_of items ≡ Ok bits → demand (n == 1 || ones items == n) Length ≡ Ok tt → All (IsBelow n) places
spread_below items bits n places e f h =
    rw e (all_mapped (IsBelow n) (λ k. k < length bits) (spread_at bits n)
    (λ k l. each k (is_one (get_or bits k (pos 0))) (λ t. count_before bits k l t)) (range_with_len 0 (length bits)) (range_below 0 (length bits) (length bits) (omega arith)))
  where
    as_many : (a b : Bool) → (b ≡ true → ones items ≡ n) → demand (a || b) Length ≡ Ok tt → a ≡ false → ones items ≡ n
    as_many true b g h d = absurd (cc)
    as_many false true g h d = g refl
    as_many false false g h d = absurd (cc)

    next : (k : ℕ) (b : Bool) → (b ≡ true → n ≡ 1) → (b ≡ false → ones items ≡ n) → count_by is_one (take k bits) < count_by is_one bits → cond b 0 (count_by is_one (take k bits)) < n
    next k true one many l = omega (arith, one refl)
    next k false one many l = omega (arith, many refl, ones_of items bits f)

    each : (k : ℕ) (t : Bool) → (t ≡ true → count_by is_one (take k bits) < count_by is_one bits) → IsBelow n (cond t (Some (place_served n (count_by is_one (take k bits)))) None)
    each k true g = next k (n == 1) (λ d. eqb-true n 1 d) (as_many (n == 1) (ones items == n) (λ d. eqb-true (ones items) n d) h) (g refl)
    each k false g = tt

-- one number more that is no 1, and one that is
pub kept_more_no : (bits : List ℤ) (n k : ℕ) (places : List (Option ℕ)) → places ≡ kept bits n k → is_one (get_or bits (place_served (length bits) k) (pos 0)) ≡ false → places ≡ kept bits n (k + 1)
kept_more_no bits n k places e h = e ∙ sym (append-nil (kept bits n k)) ∙ sym (kept_more bits n k false h)

pub kept_more_yes : (bits : List ℤ) (n k : ℕ) (places news : List (Option ℕ)) → places ≡ kept bits n k → news ≡ places ++ Some (place_served n k) ∷ [] → is_one (get_or bits (place_served (length bits) k) (pos 0)) ≡ true → news ≡ kept bits n (k + 1)
kept_more_yes bits n k places news e g h = g ∙ ap (λ l. l ++ Some (place_served n k) ∷ []) e ∙ sym (kept_more bits n k true h)

pub spread_no : (bits : List ℤ) (n k : ℕ) (places news : List (Option ℕ)) → places ≡ map (spread_at bits n) (range_with_len 0 k) → news ≡ places ++ None ∷ [] → is_one (get_or bits k (pos 0)) ≡ false →
    news ≡ map (spread_at bits n) (range_with_len 0 (k + 1))
spread_no bits n k places news e g h =
    g ∙ ap (λ l. l ++ None ∷ []) e ∙ ap (λ b. map (spread_at bits n) (range_with_len 0 k) ++ cond b (Some (place_served n (count_by is_one (take k bits)))) None ∷ []) (sym h)
    ∙ sym (map-range_with_len_more (spread_at bits n) 0 k k (omega arith))

pub spread_yes : (bits : List ℤ) (n k next : ℕ) (places news : List (Option ℕ)) → next ≡ count_by is_one (take k bits) → places ≡ map (spread_at bits n) (range_with_len 0 k) → news ≡ places ++ Some (place_served n next) ∷ [] →
    is_one (get_or bits k (pos 0)) ≡ true → news ≡ map (spread_at bits n) (range_with_len 0 (k + 1))
spread_yes bits n k next places news d e g h =
    g ∙ ap (λ l. l ++ Some (place_served n next) ∷ []) e
    ∙ ap (λ c. map (spread_at bits n) (range_with_len 0 k) ++ Some (place_served n c) ∷ []) d
    ∙ ap (λ b. map (spread_at bits n) (range_with_len 0 k) ++ cond b (Some (place_served n (count_by is_one (take k bits)))) None ∷ []) (sym h)
    ∙ sym (map-range_with_len_more (spread_at bits n) 0 k k (omega arith))
