-- The grade of items is the one list of their places in order.
use Rattle.std.proofs.Common.{◌≡◌, ℕ, ℤ, pos, ◌+◌, ◌<ℤ◌, ◌==◌, inl, inr, Bool, true, false, List, [], ◌∷◌, length, map, Ordering, Less, Equal, Greater, Result, Ok, Err, Contains, refl, sym, ap, ◌∙◌, subst, arith}
use Rattle.std.specs.Ordering.{MatchOrdering, int_cmp, nat_cmp, ordering_then}
use Rattle.std.specs.Cmp.{int_chain}
use Rattle.std.specs.Int.Signed.{<ℤ_irrefl}
use Rattle.std.specs.List.{AllByRecursion, range_with_len}
use Rattle.std.specs.List.Sorted.{IsPermutation}
use Rattle.std.proofs.lemmas.Bool.{eq-eqb, eqb-true}
use Rattle.std.proofs.lemmas.Cmp.{int_ranked}
use Rattle.std.proofs.lemmas.List.Sorted.{Contains-permutation, IsPermutation-map, IsPermutation-sym}
use Rattle.apl_faults.specs.declared.fault.Fault.{Fault}
use Rattle.apl_faults.specs.declared.fault.Fault.TheVariants.{Rank}
use Rattle.apl_arrays.specs.Cells.{Arr, Numbers}
use Rattle.apl_arrays.specs.Checks.{demand, numbers_of}
use Rattle.apl_arrays.specs.Results.{and_then, ok_map}
use Rattle.apl_arrays.proofs.Order.{map_map}
use Rattle.apl_search.specs.Ordered.{graded, numbered, ordered}
use Rattle.apl_array_laws.specs.Grades.{Falls, GradesDown, GradesUp, HaveOneGrade, IsGrade, IsGradeOf, Precedes, Rises, item}
use Rattle.apl_array_laws.proofs.Pairs.{PairsHold, from_pairs, one_list, pairs_map, to_pairs}
use Rattle.apl_array_laws.proofs.Sorting.{Entry, IsOrder, Sorted, numbered_apart, numbered_places, numbered_right, ordered_all, ordered_permutes, ordered_sorted}

rises_order : IsOrder Rises int_cmp
rises_order = record { one_way = λ x y h k. <ℤ_irrefl (int_chain x y x h k); chain = int_chain; told = int_ranked }

falls_order : IsOrder Falls (λ x y. int_cmp y x)
falls_order = record { one_way = λ x y h k. <ℤ_irrefl (int_chain x y x k h); chain = λ x y z h k. int_chain z y x k h; told = λ x y r e. back x y r (int_ranked y x r e) }
  where
    back : (x y : ℤ) (r : Ordering) → MatchOrdering r (y <ℤ x) (y ≡ x) (x <ℤ y) → MatchOrdering r (y <ℤ x) (x ≡ y) (x <ℤ y)
    back x y Less m = m
    back x y Equal m = sym m
    back x y Greater m = m

-- a relation of entries, as one of their places
along : (Before : ℤ → ℤ → Type 0) (zs : List ℤ) (es : List Entry) → AllByRecursion (λ (e : Entry). item zs e.1 ≡ e.0) es → PairsHold (Sorted Before) es → PairsHold (λ (e f : Entry). Precedes Before zs e.1 f.1) es
along Before zs [] r p = tt
along Before zs (e ∷ es) r p = (later es r.1 p.0, along Before zs es r.1 p.1)
  where
    one : (f : Entry) → item zs f.1 ≡ f.0 → Sorted Before e f → Precedes Before zs e.1 f.1
    one f q (inl b) = inl (subst (λ i. Before i (item zs f.1)) (sym r.0) (subst (Before e.0) (sym q) b))
    one f q (inr s) = inr (r.0 ∙ s.0 ∙ sym q, s.1)

    later : (fs : List Entry) → AllByRecursion (λ (f : Entry). item zs f.1 ≡ f.0) fs → AllByRecursion (Sorted Before e) fs → AllByRecursion (λ (f : Entry). Precedes Before zs e.1 f.1) fs
    later [] a b = tt
    later (f ∷ fs) a b = (one f a.0 b.0, later fs a.1 b.1)

places_by : (Entry → Entry → Ordering) → List ℤ → List ℕ
places_by order zs = map (λ (e : Entry). e.1) (ordered order (numbered 0 zs))

module _ (Before : ℤ → ℤ → Type 0) (compared : ℤ → ℤ → Ordering) (o : IsOrder Before compared) where
  abbrev by_both : Entry → Entry → Ordering
  by_both x y = ordering_then (compared x.0 y.0) (nat_cmp x.1 y.1)

  is_grade : (zs : List ℤ) → IsGrade Before zs (places_by by_both zs)
  unfolding places_by
  is_grade zs = record { all = all; order = to_pairs (Precedes Before zs) _ (pairs_map (Precedes Before zs) (λ (e : Entry). e.1) (ordered by_both (numbered 0 zs)) sorted) }
    where
      all : IsPermutation (range_with_len 0 (length zs)) (map (λ (e : Entry). e.1) (ordered by_both (numbered 0 zs)))
      all = subst (λ l. IsPermutation l (map (λ (e : Entry). e.1) (ordered by_both (numbered 0 zs)))) (numbered_places 0 zs) (IsPermutation-map (λ (e : Entry). e.1) (numbered 0 zs) (ordered by_both (numbered 0 zs)) (ordered_permutes by_both (numbered 0 zs)))

      right : AllByRecursion (λ (e : Entry). item zs e.1 ≡ e.0) (numbered 0 zs)
      right = numbered_right 0 zs (pos 0) (item zs) (λ j l. let same : 0 + j ≡ j = omega arith in ap (item zs) same)

      sorted : PairsHold (λ (e f : Entry). Precedes Before zs e.1 f.1) (ordered by_both (numbered 0 zs))
      sorted = along Before zs (ordered by_both (numbered 0 zs)) (ordered_all (λ (e : Entry). item zs e.1 ≡ e.0) by_both (numbered 0 zs) right) (ordered_sorted Before compared o (numbered 0 zs) (numbered_apart 0 zs))

  one_way : (zs : List ℤ) (p q : ℕ) → Precedes Before zs p q → Precedes Before zs q p → ⊥
  one_way zs p q (inl a) (inl b) = o.one_way (item zs p) (item zs q) a b
  one_way zs p q (inl a) (inr b) = let back : Before (item zs q) (item zs p) = subst (λ i. Before i (item zs p)) (sym b.0) (subst (Before (item zs p)) b.0 a) in o.one_way (item zs p) (item zs q) a back
  one_way zs p q (inr a) (inl b) = let back : Before (item zs p) (item zs q) = subst (λ i. Before i (item zs q)) (sym a.0) (subst (Before (item zs q)) a.0 b) in o.one_way (item zs q) (item zs p) b back
  one_way zs p q (inr a) (inr b) = omega (arith, a.1, b.1)

  one_grade : HaveOneGrade Before
  one_grade zs ps qs g h =
      one_list (Precedes Before zs) (one_way zs) ps qs (from_pairs (Precedes Before zs) ps g.order) (from_pairs (Precedes Before zs) qs h.order) (across ps qs g h) (across qs ps h g)
    where
      across : (ps qs : List ℕ) → IsGrade Before zs ps → IsGrade Before zs qs → (p : ℕ) → Contains ps p → Contains qs p
      across ps qs g h p c = Contains-permutation (range_with_len 0 (length zs)) qs p h.all (Contains-permutation ps (range_with_len 0 (length zs)) p (IsPermutation-sym (range_with_len 0 (length zs)) ps g.all) c)

  made : Arr → ℕ → List ℤ → Arr
  made b origin zs = record { shape = b.shape; items = Numbers (map (λ (e : Entry). pos (origin + e.1)) (ordered by_both (numbered 0 zs))) }

  made_items : (b : Arr) (origin : ℕ) (zs : List ℤ) → (made b origin zs).items ≡ Numbers (map (λ (p : ℕ). pos (origin + p)) (places_by by_both zs))
  unfolding made places_by
  made_items b origin zs = ap Numbers (sym (map_map (λ (p : ℕ). pos (origin + p)) (λ (e : Entry). e.1) (ordered by_both (numbered 0 zs))))

  grades : (b c : Arr) (origin : ℕ) → graded by_both b origin ≡ Ok c → IsGradeOf Before b origin c
  unfolding made
  grades b c origin h = ranks (length b.shape == 1) refl h
    where
      found : (r : Result (List ℤ) Fault) → length b.shape ≡ 1 → numbers_of b.items ≡ r → ok_map (made b origin) r ≡ Ok c → IsGradeOf Before b origin c
      found (Ok zs) vector e h =
          let same : made b origin zs ≡ c = cc in
          record {
            vector = vector;
            items = zs;
            items_are = e;
            places = places_by by_both zs;
            grade = is_grade zs;
            shape_is = ap (λ (a : Arr). a.shape) (sym same);
            places_are = ap (λ (a : Arr). a.items) (sym same) ∙ made_items b origin zs;
          }
      found (Err fault) vector e h = absurd (cc)

      ranks : (d : Bool) → (length b.shape == 1) ≡ d → and_then (demand d Rank) (λ u. ok_map (made b origin) (numbers_of b.items)) ≡ Ok c → IsGradeOf Before b origin c
      ranks true e h = found (numbers_of b.items) (eqb-true (length b.shape) 1 e) refl h
      ranks false e h = absurd (cc)

  is_graded : (b c : Arr) (origin : ℕ) → IsGradeOf Before b origin c → graded by_both b origin ≡ Ok c
  unfolding made
  is_graded b c origin g =
      let here : (length b.shape == 1) ≡ true = eq-eqb (length b.shape) 1 g.vector in
      let places : places_by by_both g.items ≡ g.places = one_grade g.items (places_by by_both g.items) g.places (is_grade g.items) g.grade in
      let items : (made b origin g.items).items ≡ c.items = made_items b origin g.items ∙ ap (λ (ps : List ℕ). Numbers (map (λ (p : ℕ). pos (origin + p)) ps)) places ∙ sym g.places_are in
      let shape : b.shape ≡ c.shape = sym g.shape_is in
      let same : made b origin g.items ≡ c = λ i. record { shape = shape i; items = items i } in
      ap (λ d. and_then (demand d Rank) (λ u. ok_map (made b origin) (numbers_of b.items))) here ∙ ap (ok_map (made b origin)) g.items_are ∙ ap Ok same

pub grades_up : GradesUp
grades_up b c origin = (grades Rises int_cmp rises_order b c origin, is_graded Rises int_cmp rises_order b c origin)

pub grades_down : GradesDown
grades_down b c origin = (grades Falls (λ x y. int_cmp y x) falls_order b c origin, is_graded Falls (λ x y. int_cmp y x) falls_order b c origin)

pub one_up : HaveOneGrade Rises
one_up = one_grade Rises int_cmp rises_order

pub one_down : HaveOneGrade Falls
one_down = one_grade Falls (λ x y. int_cmp y x) falls_order
