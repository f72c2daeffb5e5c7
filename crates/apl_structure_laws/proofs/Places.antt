-- The places that a mask keeps, and those over which it spreads.
use Rattle.std.proofs.Common.{suc, zero, ◌≡◌, ℕ, ℤ, pos, ◌+◌, ◌<◌, ◌≤◌, ◌==◌, Bool, true, false, cond, List, [], ◌∷◌, length, get_or, take, Some, None, Ok, refl, ap, sym, ◌∙◌, arith}
use Rattle.std.specs.List.{count_by, filter, list_all, range_with_len}
use Rattle.std.proofs.lemmas.Bool.{eqb-true}
use Rattle.std.proofs.lemmas.List.{get_or-map, length-map, take_all}
use Rattle.std.proofs.lemmas.List.FromFn.{get_or-map-range_with_len}
use Rattle.std.proofs.lemmas.List.Sums.{count_by_more_no, count_by_more_yes}
use Rattle.apl_faults.specs.declared.fault.Fault.TheVariants.{Domain}
use Rattle.apl_arrays.specs.declared.cell.Cell.TheVariants.{Num}
use Rattle.apl_arrays.specs.Cells.{Items, Numbers, Characters, cells_of}
use Rattle.apl_arrays.specs.Checks.{demand}
use Rattle.apl_arrays.specs.Results.{ok_map}
use Rattle.apl_select.specs.Compress.{bits_of, is_bit, is_one, kept, ones, spread, spread_at}
use Rattle.apl_select.specs.Lined.{place_served}

pub served-each : (n k : ℕ) → k < n → place_served n k ≡ k
served-each n k h = by (n == 1) refl
  where
    by : (b : Bool) → (n == 1) ≡ b → cond b 0 k ≡ k
    by true e = let one : n ≡ 1 = eqb-true n 1 e in omega arith
    by false e = refl

-- how many ones stand before a place
abbrev pub ones_before : List ℤ → ℕ → ℕ
ones_before bits k = count_by is_one (take k bits)

-- the test of a place
abbrev is_kept : List ℤ → ℕ → Bool
is_kept bits k = is_one (get_or bits (place_served (length bits) k) (pos 0))

-- the places with a one among those from a on
abbrev found : List ℤ → ℕ → ℕ → List ℕ
found bits a l = filter (is_kept bits) (range_with_len a l)

tests : (bits : List ℤ) (k : ℕ) (b : Bool) → k < length bits → is_kept bits k ≡ b → is_one (get_or bits k (pos 0)) ≡ b
tests bits k b h e = ap (λ q. is_one (get_or bits q (pos 0))) (sym (served-each (length bits) k h)) ∙ e

-- the p-th of them has as many ones before it
pub record IsNth (bits : List ℤ) (p k : ℕ) : Type 0 where
  pub below : k < length bits
  pub one : is_one (get_or bits k (pos 0)) ≡ true
  pub before : ones_before bits k ≡ p

nth_found : (bits : List ℤ) (a l p : ℕ) → a + l ≡ length bits → p < length (found bits a l) → IsNth bits (ones_before bits a + p) (get_or (found bits a l) p 0)
nth_found bits a zero p e h = absurd (omega arith)
nth_found bits a (suc l) p e h = by (λ p h. nth_found bits (a + 1) l p (next a l (length bits) e) h) (is_kept bits a) p refl h
  where
    below : a < length bits
    below = omega arith

    next : (a l n : ℕ) → a + suc l ≡ n → (a + 1) + l ≡ n
    next a l n e = omega arith

    by : ((p : ℕ) → p < length (found bits (a + 1) l) → IsNth bits (ones_before bits (a + 1) + p) (get_or (found bits (a + 1) l) p 0)) → (b : Bool) (p : ℕ) → is_kept bits a ≡ b → p < length (cond b (a ∷ found bits (a + 1) l) (found bits (a + 1) l)) → IsNth bits (ones_before bits a + p) (get_or (cond b (a ∷ found bits (a + 1) l) (found bits (a + 1) l)) p 0)
    by rest true zero t h = record { below = below; one = tests bits a true below t; before = plus (ones_before bits a) }
      where
        plus : (n : ℕ) → n ≡ n + 0
        plus n = omega arith
    by rest true (suc p) t h =
        let i = rest p (omega arith) in
        let more : ones_before bits (a + 1) ≡ ones_before bits a + 1 = count_by_more_yes is_one bits a (pos 0) below (tests bits a true below t) in
        record { below = i.below; one = i.one; before = i.before ∙ sum (ones_before bits (a + 1)) (ones_before bits a) p more }
      where
        sum : (m n p : ℕ) → m ≡ n + 1 → m + p ≡ n + suc p
        sum m n p e = omega arith
    by rest false p t h =
        let i = rest p h in
        record { below = i.below; one = i.one; before = i.before ∙ ap (λ n. n + p) (count_by_more_no is_one bits a (pos 0) below (tests bits a false below t)) }

length_found : (bits : List ℤ) (a l : ℕ) → a + l ≡ length bits → ones_before bits a + length (found bits a l) ≡ ones_before bits (length bits)
length_found bits a zero e = plus (ones_before bits a) ∙ ap (ones_before bits) (none a (length bits) e)
  where
    plus : (n : ℕ) → n + 0 ≡ n
    plus n = omega arith

    none : (a n : ℕ) → a + 0 ≡ n → a ≡ n
    none a n e = omega arith
length_found bits a (suc l) e = by (length_found bits (a + 1) l (next a l (length bits) e)) (is_kept bits a) refl
  where
    below : a < length bits
    below = omega arith

    next : (a l n : ℕ) → a + suc l ≡ n → (a + 1) + l ≡ n
    next a l n e = omega arith

    by : ones_before bits (a + 1) + length (found bits (a + 1) l) ≡ ones_before bits (length bits) → (b : Bool) → is_kept bits a ≡ b → ones_before bits a + length (cond b (a ∷ found bits (a + 1) l) (found bits (a + 1) l)) ≡ ones_before bits (length bits)
    by rest true t = sum (ones_before bits (a + 1)) (ones_before bits a) (length (found bits (a + 1) l)) (count_by_more_yes is_one bits a (pos 0) below (tests bits a true below t)) ∙ rest
      where
        sum : (m n p : ℕ) → m ≡ n + 1 → n + suc p ≡ m + p
        sum m n p e = omega arith
    by rest false t = ap (λ n. n + length (found bits (a + 1) l)) (sym (count_by_more_no is_one bits a (pos 0) below (tests bits a false below t))) ∙ rest

-- ---- what is kept of as many places as bits

pub length-kept : (bits : List ℤ) → length (kept bits (length bits) (length bits)) ≡ count_by is_one bits
length-kept bits =
    length-map (found bits 0 (length bits)) (λ k. Some (place_served (length bits) k))
    ∙ none (length (found bits 0 (length bits)))
    ∙ length_found bits 0 (length bits) (all (length bits))
    ∙ ap (count_by is_one) (take_all (length bits) bits few)
  where
    none : (n : ℕ) → n ≡ 0 + n
    none n = omega arith

    all : (n : ℕ) → 0 + n ≡ n
    all n = omega arith

    few : length bits ≤ length bits
    few = omega arith

-- the p-th place that is kept
abbrev pub kept_place : List ℤ → ℕ → ℕ
kept_place bits p = get_or (found bits 0 (length bits)) p 0

many : (bits : List ℤ) (p : ℕ) → p < count_by is_one bits → p < length (found bits 0 (length bits))
many bits p h = omega (arith, length-kept bits, length-map (found bits 0 (length bits)) (λ k. Some (place_served (length bits) k)))

pub nth_kept : (bits : List ℤ) (p : ℕ) → p < count_by is_one bits → IsNth bits p (kept_place bits p)
nth_kept bits p h =
    let i = nth_found bits 0 (length bits) p (all (length bits)) (many bits p h) in
    record { below = i.below; one = i.one; before = i.before ∙ all p }
  where
    all : (n : ℕ) → 0 + n ≡ n
    all n = omega arith

pub kept-at : (bits : List ℤ) (p : ℕ) → p < count_by is_one bits → get_or (kept bits (length bits) (length bits)) p None ≡ Some (kept_place bits p)
kept-at bits p h =
    let i = nth_kept bits p h in
    get_or-map (λ k. Some (place_served (length bits) k)) (found bits 0 (length bits)) p 0 None (many bits p h) ∙ ap Some (served-each (length bits) (kept_place bits p) i.below)

pub spread-nth : (bits : List ℤ) (p k n : ℕ) → IsNth bits p k → p < n → get_or (spread bits n) k None ≡ Some p
spread-nth bits p k n i h =
    get_or-map-range_with_len (spread_at bits n) 0 (length bits) k k None i.below (all k)
    ∙ ap (λ (b : Bool). cond b (Some (place_served n (ones_before bits k))) None) i.one
    ∙ ap (λ m. Some (place_served n m)) i.before ∙ ap Some (served-each n p h)
  where
    all : (n : ℕ) → 0 + n ≡ n
    all n = omega arith

-- ---- the mask's bits

pub record AreBits (items : Items) (bits : List ℤ) : Type 0 where
  pub count : length (cells_of items) ≡ length bits
  pub ones_are : ones items ≡ count_by is_one bits

pub are_bits : (items : Items) (bits : List ℤ) → bits_of items ≡ Ok bits → AreBits items bits
are_bits (Numbers zs) bits e = by (list_all is_bit zs) e
  where
    by : (b : Bool) → ok_map (λ u. zs) (demand b Domain) ≡ Ok bits → AreBits (Numbers zs) bits
    by true e = let same : zs ≡ bits = cc in record { count = length-map zs Num ∙ ap length same; ones_are = ap (count_by is_one) same }
    by false e = absurd (cc)
are_bits (Characters []) bits e = let same : [] ≡ bits = cc in record { count = ap length same; ones_are = ap (count_by is_one) same }
are_bits (Characters (c ∷ cs)) bits e = absurd (cc)
