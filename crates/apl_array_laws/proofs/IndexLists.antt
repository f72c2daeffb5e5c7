-- The index lists of a shape are those that lie within it, in lexicographic order.
use Rattle.std.proofs.Common.{◌≡◌, ◌≢◌, ℕ, zero, suc, ◌+◌, ◌<◌, inl, inr, true, nat_lt, List, [], ◌∷◌, map, length, get_or, Contains, refl, sym, ap, ◌∙◌, subst, arith}
use Rattle.std.specs.List.{flat_map, range_with_len, AllByRecursion}
use Rattle.std.proofs.lemmas.List.Elements.{All-from_recursion, All-contains}
use Rattle.apl_arrays.specs.Index.{indices, is_within, position_in}
use Rattle.apl_arrays.proofs.Places.{both, within_head, position_in-lt}
use Rattle.apl_arrays.proofs.Order.{all_within, length-indices, within_cons}
use Rattle.apl_arrays.proofs.AtPlace.{at_place}
use Rattle.apl_array_laws.specs.IndexLists.{ComesBefore, HasIndexLists, LiesWithin, OneOrder, StandOnce, TestsWithin}
use Rattle.apl_array_laws.proofs.Pairs.{PairsHold, all_append, all_map, all_of, from_pairs, one_list, pairs_append, pairs_map, pairs_so, to_pairs}

-- ---- within a shape

pub lies : (s i : List ℕ) → is_within s i ≡ true → LiesWithin s i
lies [] [] h = tt
lies [] (i ∷ is) h = absurd (cc)
lies (n ∷ ns) [] h = absurd (cc)
lies (n ∷ ns) (i ∷ is) h = (within_head n i ns is h, lies ns is (both (nat_lt i n) (is_within ns is) h).1)

pub within : (s i : List ℕ) → LiesWithin s i → is_within s i ≡ true
within [] [] h = refl
within [] (i ∷ is) h = absurd h
within (n ∷ ns) [] h = absurd h
within (n ∷ ns) (i ∷ is) h = within_cons n i ns is h.0 (within ns is h.1)

pub tests_within : TestsWithin
tests_within s i = (lies s i, within s i)

-- ---- exactly those

among_lies : (s i : List ℕ) → Contains (indices s) i → LiesWithin s i
among_lies s i c = lies s i (All-contains (λ i. is_within s i ≡ true) (indices s) i (All-from_recursion (λ i. is_within s i ≡ true) (indices s) (all_within s)) c)

as_they_are : {A : Type 0} (xs : List A) → map (λ x. x) xs ≡ xs
as_they_are [] = refl
as_they_are (x ∷ xs) = ap (λ l. x ∷ l) (as_they_are xs)

lies_among : (s i : List ℕ) → LiesWithin s i → Contains (indices s) i
lies_among s i h =
    let w : is_within s i ≡ true = within s i h in
    let below : position_in s i < length (indices s) = omega (arith, position_in-lt s i w, length-indices s) in
    (position_in s i, below, ap (λ l. get_or l (position_in s i) i) (sym (as_they_are (indices s))) ∙ at_place (λ i. i) i s i w)

-- ---- in order

abbrev rows : List ℕ → ℕ → ℕ → List (List ℕ)
rows ns a m = flat_map (λ i. map (λ is. i ∷ is) (indices ns)) (range_with_len a m)

-- a row comes before those with greater first indices
before_rows : (ns : List ℕ) (a : ℕ) (is : List ℕ) (b m : ℕ) → a < b → AllByRecursion (ComesBefore (a ∷ is)) (rows ns b m)
before_rows ns a is b zero h = tt
before_rows ns a is b (suc m) h =
    all_append (ComesBefore (a ∷ is)) (map (λ js. b ∷ js) (indices ns)) (rows ns (b + 1) m)
    (all_map (ComesBefore (a ∷ is)) (λ js. b ∷ js) (indices ns) (all_of (λ js. ComesBefore (a ∷ is) (b ∷ js)) (λ js. inl h) (indices ns)))
    (before_rows ns a is (b + 1) m (omega arith))

in_rows : (ns : List ℕ) → PairsHold ComesBefore (indices ns) → (a m : ℕ) → PairsHold ComesBefore (rows ns a m)
in_rows ns h a zero = tt
in_rows ns h a (suc m) =
    pairs_append ComesBefore (map (λ is. a ∷ is) (indices ns)) (rows ns (a + 1) m)
    (pairs_map ComesBefore (λ is. a ∷ is) (indices ns) (pairs_so ComesBefore (λ is js. ComesBefore (a ∷ is) (a ∷ js)) (λ is js l. inr (refl, l)) (indices ns) h))
    (in_rows ns h (a + 1) m)
    (all_map (λ i. AllByRecursion (ComesBefore i) (rows ns (a + 1) m)) (λ is. a ∷ is) (indices ns)
    (all_of (λ is. AllByRecursion (ComesBefore (a ∷ is)) (rows ns (a + 1) m)) (λ is. before_rows ns a is (a + 1) m (omega arith)) (indices ns)))

in_order : (s : List ℕ) → PairsHold ComesBefore (indices s)
in_order [] = (tt, tt)
in_order (n ∷ ns) = in_rows ns (in_order ns) 0 n

pub index_lists : HasIndexLists
index_lists s = record { exact = λ i. (among_lies s i, lies_among s i); order = to_pairs ComesBefore (indices s) (in_order s) }

-- ---- each once, in no other order

one_way : (i j : List ℕ) → ComesBefore i j → ComesBefore j i → ⊥
one_way [] j h k = h
one_way (i ∷ is) [] h k = h
one_way (i ∷ is) (j ∷ js) (inl h) (inl k) = omega arith
one_way (i ∷ is) (j ∷ js) (inl h) (inr k) = let e : j ≡ i = k.0 in omega arith
one_way (i ∷ is) (j ∷ js) (inr h) (inl k) = let e : i ≡ j = h.0 in omega arith
one_way (i ∷ is) (j ∷ js) (inr h) (inr k) = one_way is js h.1 k.1

differ : (i j : List ℕ) → ComesBefore i j → i ≢ j
differ i j h e = let b : ComesBefore j j = subst (λ k. ComesBefore k j) e h in one_way j j b b

pub stand_once : StandOnce
stand_once s = to_pairs (λ i j. i ≢ j) (indices s) (pairs_so ComesBefore (λ i j. i ≢ j) differ (indices s) (in_order s))

pub one_order : OneOrder
one_order s lists h =
    one_list ComesBefore one_way lists (indices s) (from_pairs ComesBefore lists h.order) (in_order s)
    (λ i c. lies_among s i ((h.exact i).0 c)) (λ i c. (h.exact i).1 (among_lies s i c))
