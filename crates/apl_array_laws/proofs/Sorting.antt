-- Entries that are put in order, by item and then by place.
use Rattle.std.proofs.Common.{◌≡◌, ◌≢◌, ℕ, ℤ, suc, ◌+◌, ◌<◌, ◌⊎◌, inl, inr, Bool, true, false, if◌then◌else◌, List, [], ◌∷◌, length, map, get_or, Ordering, Less, Equal, Greater, refl, sym, ap, ◌∙◌, subst, arith, lt_trans}
use Rattle.std.specs.Ordering.{MatchOrdering, is_lt, nat_cmp, ordering_then}
use Rattle.std.specs.List.{AllByRecursion, range_with_len}
use Rattle.std.specs.List.Sorted.{IsPermutation}
use Rattle.std.proofs.lemmas.Cmp.{ranked}
use Rattle.std.proofs.lemmas.List.Sorted.{IsPermutation-cons, IsPermutation-middle, IsPermutation-refl, IsPermutation-trans}
use Rattle.apl_search.specs.Ordered.{numbered, ordered, put}
use Rattle.apl_array_laws.proofs.Pairs.{PairsHold, all_so}

abbrev pub Entry : Type 0
Entry = ℤ × ℕ

-- ---- the same entries

put_permutes : (cmp : Entry → Entry → Ordering) (x : Entry) (l : List Entry) → IsPermutation (x ∷ l) (put cmp x l)
put_permutes cmp x [] = IsPermutation-refl (x ∷ [])
put_permutes cmp x (y ∷ ys) = by (is_lt (cmp y x)) (put_permutes cmp x ys)
  where
    by : (b : Bool) → IsPermutation (x ∷ ys) (put cmp x ys) → IsPermutation (x ∷ y ∷ ys) (if b then y ∷ put cmp x ys else x ∷ y ∷ ys)
    by true h = IsPermutation-trans (x ∷ y ∷ ys) (y ∷ x ∷ ys) (y ∷ put cmp x ys) (IsPermutation-middle (x ∷ []) y ys) (IsPermutation-cons y (x ∷ ys) (put cmp x ys) h)
    by false h = IsPermutation-refl (x ∷ y ∷ ys)

pub ordered_permutes : (cmp : Entry → Entry → Ordering) (xs : List Entry) → IsPermutation xs (ordered cmp xs)
ordered_permutes cmp [] = IsPermutation-refl []
ordered_permutes cmp (x ∷ xs) =
    IsPermutation-trans (x ∷ xs) (x ∷ ordered cmp xs) (put cmp x (ordered cmp xs)) (IsPermutation-cons x xs (ordered cmp xs) (ordered_permutes cmp xs)) (put_permutes cmp x (ordered cmp xs))

put_all : (P : Entry → Type 0) (cmp : Entry → Entry → Ordering) (x : Entry) (l : List Entry) → P x → AllByRecursion P l → AllByRecursion P (put cmp x l)
put_all P cmp x [] p h = (p, tt)
put_all P cmp x (y ∷ ys) p h = by (is_lt (cmp y x)) (put_all P cmp x ys p h.1)
  where
    by : (b : Bool) → AllByRecursion P (put cmp x ys) → AllByRecursion P (if b then y ∷ put cmp x ys else x ∷ y ∷ ys)
    by true rest = (h.0, rest)
    by false rest = (p, h)

pub ordered_all : (P : Entry → Type 0) (cmp : Entry → Entry → Ordering) (xs : List Entry) → AllByRecursion P xs → AllByRecursion P (ordered cmp xs)
ordered_all P cmp [] h = tt
ordered_all P cmp (x ∷ xs) h = put_all P cmp x (ordered cmp xs) h.0 (ordered_all P cmp xs h.1)

-- ---- in order

-- an entry is sorted before another
abbrev pub Sorted : (ℤ → ℤ → Type 0) → Entry → Entry → Type 0
Sorted Before x y = Before x.0 y.0 ⊎ ((x.0 ≡ y.0) × (x.1 < y.1))

abbrev pub Apart : Entry → Entry → Type 0
Apart x y = x.1 ≢ y.1

-- an order of items, and the comparison that tells it
pub record IsOrder (Before : ℤ → ℤ → Type 0) (compared : ℤ → ℤ → Ordering) : Type 0 where
  pub one_way : (x y : ℤ) → Before x y → Before y x → ⊥
  pub chain : (x y z : ℤ) → Before x y → Before y z → Before x z
  pub told : (x y : ℤ) (r : Ordering) → r ≡ compared x y → MatchOrdering r (Before x y) (x ≡ y) (Before y x)

module _ (Before : ℤ → ℤ → Type 0) (compared : ℤ → ℤ → Ordering) (o : IsOrder Before compared) where
  abbrev by_both : Entry → Entry → Ordering
  by_both x y = ordering_then (compared x.0 y.0) (nat_cmp x.1 y.1)

  chained : (x y z : Entry) → Sorted Before x y → Sorted Before y z → Sorted Before x z
  chained x y z (inl a) (inl b) = inl (o.chain x.0 y.0 z.0 a b)
  chained x y z (inl a) (inr b) = inl (subst (Before x.0) b.0 a)
  chained x y z (inr a) (inl b) = inl (subst (λ i. Before i z.0) (sym a.0) b)
  chained x y z (inr a) (inr b) = inr (a.0 ∙ b.0, lt_trans a.1 b.1)

  before : (y x : Entry) → is_lt (by_both y x) ≡ true → Sorted Before y x
  before y x h = items (compared y.0 x.0) (o.told y.0 x.0 (compared y.0 x.0) refl) h
    where
      places : (s : Ordering) → MatchOrdering s (y.1 < x.1) (y.1 ≡ x.1) (x.1 < y.1) → is_lt s ≡ true → y.1 < x.1
      places Less m h = m
      places Equal m h = absurd (cc)
      places Greater m h = absurd (cc)

      items : (r : Ordering) → MatchOrdering r (Before y.0 x.0) (y.0 ≡ x.0) (Before x.0 y.0) → is_lt (ordering_then r (nat_cmp y.1 x.1)) ≡ true → Sorted Before y x
      items Less m h = inl m
      items Equal m h = inr (m, places (nat_cmp y.1 x.1) (ranked y.1 x.1 (nat_cmp y.1 x.1) refl) h)
      items Greater m h = absurd (cc)

  behind : (y x : Entry) → is_lt (by_both y x) ≡ false → Apart x y → Sorted Before x y
  behind y x h apart = items (compared y.0 x.0) (o.told y.0 x.0 (compared y.0 x.0) refl) h
    where
      places : (s : Ordering) → MatchOrdering s (y.1 < x.1) (y.1 ≡ x.1) (x.1 < y.1) → is_lt s ≡ false → x.1 < y.1
      places Less m h = absurd (cc)
      places Equal m h = absurd (apart (sym m))
      places Greater m h = m

      items : (r : Ordering) → MatchOrdering r (Before y.0 x.0) (y.0 ≡ x.0) (Before x.0 y.0) → is_lt (ordering_then r (nat_cmp y.1 x.1)) ≡ false → Sorted Before x y
      items Less m h = absurd (cc)
      items Equal m h = inr (sym m, places (nat_cmp y.1 x.1) (ranked y.1 x.1 (nat_cmp y.1 x.1) refl) h)
      items Greater m h = inl m

  put_sorted : (x : Entry) (l : List Entry) → AllByRecursion (Apart x) l → PairsHold (Sorted Before) l → PairsHold (Sorted Before) (put by_both x l)
  put_sorted x [] apart p = (tt, tt)
  put_sorted x (y ∷ ys) apart p = by (is_lt (by_both y x)) refl (put_sorted x ys apart.1 p.1)
    where
      by : (b : Bool) → is_lt (by_both y x) ≡ b → PairsHold (Sorted Before) (put by_both x ys) → PairsHold (Sorted Before) (if b then y ∷ put by_both x ys else x ∷ y ∷ ys)
      by true h rest = (put_all (Sorted Before y) by_both x ys (before y x h) p.0, rest)
      by false h rest = let first : Sorted Before x y = behind y x h apart.0 in ((first, all_so (Sorted Before y) (Sorted Before x) (λ z s. chained x y z first s) ys p.0), p)

  pub ordered_sorted : (xs : List Entry) → PairsHold Apart xs → PairsHold (Sorted Before) (ordered by_both xs)
  ordered_sorted [] p = tt
  ordered_sorted (x ∷ xs) p = put_sorted x (ordered by_both xs) (ordered_all (Apart x) by_both xs p.0) (ordered_sorted xs p.1)

-- ---- items with their places

numbered_above : (m k : ℕ) (zs : List ℤ) → m < k → AllByRecursion (λ (e : Entry). m ≢ e.1) (numbered k zs)
numbered_above m k [] h = tt
numbered_above m k (z ∷ zs) h = (λ e. let same : m ≡ k = e in omega arith, numbered_above m (k + 1) zs (omega arith))

pub numbered_apart : (k : ℕ) (zs : List ℤ) → PairsHold Apart (numbered k zs)
numbered_apart k [] = tt
numbered_apart k (z ∷ zs) = (numbered_above k (k + 1) zs (omega arith), numbered_apart (k + 1) zs)

pub numbered_right : (k : ℕ) (zs : List ℤ) (d : ℤ) (f : ℕ → ℤ) → ((j : ℕ) → j < length zs → f (k + j) ≡ get_or zs j d) → AllByRecursion (λ (e : Entry). f e.1 ≡ e.0) (numbered k zs)
numbered_right k [] d f h = tt
numbered_right k (z ∷ zs) d f h =
    let first : k + 0 ≡ k = omega arith in (
      subst (λ n. f n ≡ z) first (h 0 (omega arith)),
      numbered_right (k + 1) zs d f (λ j l. let next : k + suc j ≡ (k + 1) + j = omega arith in subst (λ n. f n ≡ get_or zs j d) next (h (suc j) (omega arith))),
    )

pub numbered_places : (k : ℕ) (zs : List ℤ) → map (λ (e : Entry). e.1) (numbered k zs) ≡ range_with_len k (length zs)
numbered_places k [] = refl
numbered_places k (z ∷ zs) = ap (λ l. k ∷ l) (numbered_places (k + 1) zs)
