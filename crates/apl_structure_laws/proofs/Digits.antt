-- The value of a number's digits.
use Rattle.std.proofs.Common.{suc, zero, ◌≡◌, ℕ, ℤ, pos, negsuc, ◌+ℤ◌, ◌*ℤ◌, ◌<ℤ◌, ◌+◌, ◌*◌, ◌^◌, ◌<◌, ◌≤◌, ◌==◌, Bool, true, false, cond, List, [], ◌∷◌, ◌++◌, map, length, get_or, Result, Ok, Err, refl, ap, sym, ◌∙◌, subst, arith}
use Rattle.std.specs.List.{AllByRecursion, range_with_len}
use Rattle.std.proofs.lemmas.Bool.{eq-eqb, eqb-true, le-leb, lt-ltb, ltb-true}
use Rattle.std.proofs.lemmas.Int.{ints}
use Rattle.std.proofs.lemmas.List.{get_or-append-add, get_or-map, get_or_append_left, length-map}
use Rattle.std.proofs.lemmas.List.Elements.{recursion_from_All}
use Rattle.std.proofs.lemmas.List.FromFn.{fill_by_all}
use Rattle.std.proofs.Math.Nat.{mul-le-mul_left}
use Rattle.apl_faults.specs.declared.fault.Fault.{Fault}
use Rattle.apl_faults.specs.declared.fault.Fault.TheVariants.{Length, Limit, Rank}
use Rattle.apl_arrays.specs.Cells.{Arr, Numbers, IsArray}
use Rattle.apl_arrays.specs.Checks.{count_of, demand, is_limited, limited, numbers_of, vector_rank}
use Rattle.apl_arrays.specs.Index.{indices, is_within, position_in, size_of}
use Rattle.apl_arrays.specs.Results.{all_ok, and_then, ok_map}
use Rattle.apl_arrays.proofs.Order.{all_within}
use Rattle.apl_arrays.proofs.Places.{position_in-lt, mul_pos}
use Rattle.apl_scalar.specs.Functions.{in_range, is_in_range, residue}
use Rattle.apl_search.specs.Decoded.{base_and_digit, bases_and_digits, decode, joined_count, served, valued}
use Rattle.apl_search.specs.Encoded.{bases_and_numbers, digits_by, digits_in, encode, left_by}
use Rattle.apl_search.proofs.Digits.{numbers_length}
use Rattle.apl_structure_laws.specs.Digits.{AreBases, DecodesBack, left_of_each, product}
use Rattle.apl_structure_laws.proofs.Rests.{left-quot, residue-rest, rest, rest-below, rest-one, rest-rest}
use Rattle.apl_structure_laws.proofs.Selections.{listed}

-- ---- one number

-- the bases with the digits of a number by them
abbrev pairs : List ℤ → ℤ → List (ℤ × ℤ)
pairs [] r = []
pairs (w ∷ ws) r = (w, residue w (left_by ws r)) ∷ pairs ws r

abbrev pub times : List ℕ → ℕ
times [] = 1
times (n ∷ ns) = n * times ns

pub times-pos : (ns : List ℕ) → AllByRecursion (λ n. 0 < n) ns → 1 ≤ times ns
times-pos [] h = omega arith
times-pos (n ∷ ns) h = mul_pos n (times ns) h.0 (times-pos ns h.1)

pub in_range-below : (n : ℕ) → n < 2 ^ 63 → in_range (pos n) ≡ Ok (pos n)
in_range-below n h = ap (λ (d : Bool). cond d (Ok (pos n)) (Err Limit)) (lt-ltb n (2 ^ 63) h)

value : (ns : List ℕ) (p : ℕ) (r : ℤ) (v : ℕ) → 0 < p → AllByRecursion (λ n. 0 < n) ns → p * times ns < 2 ^ 63 → v ≡ rest p (left_by (map pos ns) r) → valued (pos v) (pairs (map pos ns) r) ≡ Ok (pos (rest (p * times ns) r))
value [] p r v h a l e = ap (λ n. Ok (pos n)) e ∙ ap (λ q. Ok (pos (rest q r))) (one p)
  where
    one : (p : ℕ) → p ≡ p * 1
    one p = omega arith
value (n ∷ ns) p r v h a l e =
    let x : ℤ = left_by (map pos ns) r in
    let some : 0 < p * n = mul_pos p n h a.0 in
    let room : p * n * times ns < 2 ^ 63 = subst (λ m. m < 2 ^ 63) (grouped p n (times ns)) l in
    ap (λ (y : ℤ). and_then (in_range (pos v *ℤ pos n +ℤ y)) (λ w. valued w (pairs (map pos ns) r))) (residue-rest n x a.0)
    ∙ ap (λ (m : ℕ). and_then (in_range (pos (m * n + rest n x))) (λ w. valued w (pairs (map pos ns) r))) (e ∙ ap (rest p) (left-quot n x a.0))
    ∙ ap (λ (m : ℕ). and_then (in_range (pos m)) (λ w. valued w (pairs (map pos ns) r))) (rest-rest p n x h a.0)
    ∙ ap (λ (y : Result ℤ Fault). and_then y (λ w. valued w (pairs (map pos ns) r))) (in_range-below (rest (p * n) x) (below (rest (p * n) x) (p * n) (times ns) (rest-below (p * n) x some) (times-pos ns a.1) room))
    ∙ value ns (p * n) r (rest (p * n) x) some a.1 room refl
    ∙ ap (λ q. Ok (pos (rest q r))) (sym (grouped p n (times ns)))
  where
    grouped : (p n t : ℕ) → p * (n * t) ≡ p * n * t
    grouped p n t = omega arith

    below : (v q t : ℕ) → v < q → 1 ≤ t → q * t < 2 ^ 63 → v < 2 ^ 63
    below v q t h g l = let m : q * 1 ≤ q * t = mul-le-mul_left q g in omega arith

-- positive bases are natural numbers
pub naturals : List ℤ → List ℕ
naturals [] = []
naturals (pos n ∷ ws) = n ∷ naturals ws
naturals (negsuc n ∷ ws) = n ∷ naturals ws

pub naturals-are : (ws : List ℤ) → AllByRecursion (λ w. pos 0 <ℤ w) ws → (map pos (naturals ws) ≡ ws) × AllByRecursion (λ n. 0 < n) (naturals ws) × (product ws ≡ pos (times (naturals ws)))
unfolding naturals
naturals-are [] h = (refl, tt, refl)
naturals-are (pos n ∷ ws) h =
    let rest = naturals-are ws h.1 in
    let first : pos 0 <ℤ pos n = h.0 in
    (ap (λ (l : List ℤ). pos n ∷ l) rest.0, (omega (arith, ints), rest.1), ap (λ (z : ℤ). pos n *ℤ z) rest.2)
naturals-are (negsuc n ∷ ws) h = let first : pos 0 <ℤ negsuc n = h.0 in absurd (omega (arith, ints))

value_of : (ws : List ℤ) (r : ℤ) → AllByRecursion (λ w. pos 0 <ℤ w) ws → is_in_range (product ws) ≡ true → valued (pos 0) (pairs ws r) ≡ Ok (residue (product ws) r)
value_of ws r h fits =
    let n = naturals-are ws h in
    let inside : is_in_range (pos (times (naturals ws))) ≡ true = subst (λ z. is_in_range z ≡ true) n.2 fits in
    let room : times (naturals ws) < 2 ^ 63 = ltb-true (times (naturals ws)) (2 ^ 63) inside in
    let some : 0 < times (naturals ws) = times-pos (naturals ws) n.1 in
    ap (λ (l : List ℤ). valued (pos 0) (pairs l r)) (sym n.0)
    ∙ value (naturals ws) 1 r 0 (omega arith) n.1 (one (times (naturals ws)) room) (sym (rest-one (left_by (map pos (naturals ws)) r)))
    ∙ ap (λ m. Ok (pos (rest m r))) (same (times (naturals ws)))
    ∙ ap (λ z. Ok z) (sym (residue-rest (times (naturals ws)) r some) ∙ ap (λ z. residue z r) (sym n.2))
  where
    one : (n : ℕ) → n < 2 ^ 63 → 1 * n < 2 ^ 63
    one n h = omega arith

    same : (n : ℕ) → 1 * n ≡ n
    same n = omega arith

-- ---- the digits where they stand

length-pairs : (ws : List ℤ) (r : ℤ) → length (pairs ws r) ≡ length ws
length-pairs [] r = refl
length-pairs (w ∷ ws) r = ap suc (length-pairs ws r)

pair-at : (ws rs : List ℤ) (p k : ℕ) (d : ℤ × ℤ) → p < length rs → k < length ws → get_or (pairs ws (get_or rs p (pos 0))) k d ≡ (get_or ws k (pos 0), get_or (digits_by ws rs) (k * length rs + p) (pos 0))
pair-at [] rs p k d h g = absurd (omega arith)
pair-at (w ∷ ws) rs p zero d h g =
    ap (λ (z : ℤ). (w, z))
    (sym (get_or-map (λ r. residue w (left_by ws r)) rs p (pos 0) (pos 0) h)
    ∙ sym (get_or_append_left (map (λ r. residue w (left_by ws r)) rs) (digits_by ws rs) (pos 0) p (omega (arith, length-map rs (λ r. residue w (left_by ws r)))))
    ∙ ap (λ q. get_or (map (λ r. residue w (left_by ws r)) rs ++ digits_by ws rs) q (pos 0)) (there (length rs) p))
  where
    there : (s p : ℕ) → p ≡ 0 * s + p
    there s p = omega arith
pair-at (w ∷ ws) rs p (suc k) d h g =
    pair-at ws rs p k d h (omega arith)
    ∙ ap (λ (z : ℤ). (get_or ws k (pos 0), z))
    (sym (get_or-append-add (map (λ r. residue w (left_by ws r)) rs) (digits_by ws rs) (k * length rs + p) (pos 0))
    ∙ ap (λ q. get_or (map (λ r. residue w (left_by ws r)) rs ++ digits_by ws rs) q (pos 0)) (there k (length rs) p (length (map (λ r. residue w (left_by ws r)) rs)) (length-map rs (λ r. residue w (left_by ws r)))))
  where
    there : (k s p n : ℕ) → n ≡ s → n + (k * s + p) ≡ suc k * s + p
    there k s p n e = omega arith

served-each : (n k : ℕ) → k < n → served n k ≡ k
served-each n k h = by (n == 1) refl
  where
    by : (b : Bool) → (n == 1) ≡ b → cond b 0 k ≡ k
    by true e = let one : n ≡ 1 = eqb-true n 1 e in omega arith
    by false e = refl

-- the bases and digits that are read for an index list
pairs-read : (ws rs : List ℤ) (s i : List ℕ) → length rs ≡ size_of s → is_within s i ≡ true →
    map (base_and_digit ws (length ws ∷ s) (digits_by ws rs) i) (range_with_len 0 (length ws)) ≡ pairs ws (get_or rs (position_in s i) (pos 0))
pairs-read ws rs s i full w =
    sym (fill_by_all (base_and_digit ws (length ws ∷ s) (digits_by ws rs) i) (pairs ws (get_or rs (position_in s i) (pos 0))) (length ws) (pos 0, pos 0) (length-pairs ws (get_or rs (position_in s i) (pos 0)))
    (λ k h.
    pair-at ws rs (position_in s i) k (pos 0, pos 0) (omega (arith, position_in-lt s i w)) h
    ∙ ap (λ (n : ℕ). (get_or ws k (pos 0), get_or (digits_by ws rs) (k * n + position_in s i) (pos 0))) full
    ∙ ap (λ (q : ℕ). (get_or ws q (pos 0), get_or (digits_by ws rs) (q * size_of s + position_in s i) (pos 0))) (sym (served-each (length ws) k h))))

-- ---- all numbers

pub all_ok-same : {A B E : Type 0} (P : A → Type 0) (f : A → Result B E) (g : A → B) → ((x : A) → P x → f x ≡ Ok (g x)) → (xs : List A) → AllByRecursion P xs → all_ok f xs ≡ Ok (map g xs)
all_ok-same P f g h [] a = refl
all_ok-same {B = B} {E = E} P f g h (x ∷ xs) a =
    ap (λ (r : Result B E). and_then r (λ y. ok_map (λ ys. y ∷ ys) (all_ok f xs))) (h x a.0) ∙ ap (λ (r : Result (List B) E). ok_map (λ ys. g x ∷ ys) r) (all_ok-same P f g h xs a.1)

all_in_range : (ds es : List ℤ) → all_ok in_range ds ≡ Ok es → ds ≡ es
all_in_range [] es e = cc
all_in_range (d ∷ ds) es e = by (all_in_range ds) (is_in_range d) e
  where
    behind : ((ys : List ℤ) → all_ok in_range ds ≡ Ok ys → ds ≡ ys) → (r : Result (List ℤ) Fault) → all_ok in_range ds ≡ r → ok_map (λ ys. d ∷ ys) r ≡ Ok es → d ∷ ds ≡ es
    behind rest (Ok ys) f e = let same : d ∷ ys ≡ es = cc in ap (λ (l : List ℤ). d ∷ l) (rest ys f) ∙ same
    behind rest (Err x) f e = absurd (cc)

    by : ((ys : List ℤ) → all_ok in_range ds ≡ Ok ys → ds ≡ ys) → (b : Bool) → and_then (cond b (Ok d) (Err Limit)) (λ y. ok_map (λ ys. y ∷ ys) (all_ok in_range ds)) ≡ Ok es → d ∷ ds ≡ es
    by rest true e = behind rest (all_ok in_range ds) refl e
    by rest false e = absurd (cc)

pub residues-listed : (z : ℤ) (rs : List ℤ) (s : List ℕ) → length rs ≡ size_of s → map (λ i. residue z (get_or rs (position_in s i) (pos 0))) (indices s) ≡ map (residue z) rs
residues-listed z rs s full =
    listed (λ i. residue z (get_or rs (position_in s i) (pos 0))) (map (residue z) rs) (pos 0) s (length-map rs (residue z) ∙ full)
    (λ i w. sym (get_or-map (residue z) rs (position_in s i) (pos 0) (pos 0) (omega (arith, position_in-lt s i w))))

pub vector_shape : (s : List ℕ) (m : ℕ) → length s ≡ 1 → m ≡ size_of s → s ≡ m ∷ []
vector_shape [] m e f = absurd (omega arith)
vector_shape (n ∷ []) m e f = let same : n ≡ m = omega arith in ap (λ (k : ℕ). k ∷ []) same
vector_shape (n ∷ o ∷ s) m e f = absurd (omega arith)

joined-alike : (m n : ℕ) → m ≡ n → joined_count m n ≡ Ok n
joined-alike m n e = ap (λ k. joined_count k n) e ∙ by (n == 1)
  where
    by : (b : Bool) → cond b (Ok n) (cond b (Ok n) (cond (n == n) (Ok n) (Err Length))) ≡ Ok n
    by true = refl
    by false = ap (λ (d : Bool). cond d (Ok n) (Err Length)) (eq-eqb n n refl)

module _ (a b : Arr) (ws rs : List ℤ) (h : AreBases a ws) (g : IsArray b.shape b.items) (numbers : numbers_of b.items ≡ Ok rs) where
  full : length rs ≡ size_of b.shape
  full = numbers_length b.items rs numbers ∙ g.full

  counted : count_of a ≡ length ws
  counted = sym (numbers_length a.items ws h.bases_are)

  shape_is : a.shape ≡ length ws ∷ []
  shape_is = vector_shape a.shape (length ws) h.vector (numbers_length a.items ws h.bases_are ∙ h.array.full)

  one_axis : vector_rank a ≡ Ok tt
  one_axis = let v : length a.shape ≡ 1 = h.vector in let few : length a.shape ≤ 1 = omega arith in ap (λ (d : Bool). demand d Rank) (le-leb (length a.shape) 1 few)

  read : bases_and_numbers a b ≡ Ok (ws, rs)
  read =
      ap (λ (r : Result (Unit {0}) Fault). and_then r (λ u. and_then (numbers_of a.items) (λ bases. ok_map (λ rs. (bases, rs)) (numbers_of b.items)))) one_axis
      ∙ ap (λ (r : Result (List ℤ) Fault). and_then r (λ bases. ok_map (λ rs. (bases, rs)) (numbers_of b.items))) h.bases_are
      ∙ ap (λ (r : Result (List ℤ) Fault). ok_map (λ rs. (ws, rs)) r) numbers

  digits : Arr
  digits = record { shape = length ws ∷ b.shape; items = Numbers (digits_by ws rs) }

  encoded : (c : Arr) → encode a b ≡ Ok c → digits ≡ c
  unfolding digits
  encoded c e = shaped (is_limited (length ws ∷ b.shape)) (sym shape ∙ e)
    where
      shape : encode a b ≡ and_then (ok_map (λ u. length ws ∷ b.shape) (demand (is_limited (length ws ∷ b.shape)) Limit)) (digits_in ws rs)
      shape =
          ap (λ (r : Result (List ℤ × List ℤ) Fault). and_then r (λ p. and_then (limited (a.shape ++ b.shape)) (digits_in p.0 p.1))) read
          ∙ ap (λ (s : List ℕ). and_then (limited (s ++ b.shape)) (digits_in ws rs)) shape_is

      ranged : (r : Result (List ℤ) Fault) → all_ok in_range (digits_by ws rs) ≡ r → ok_map (λ digits. record { shape = length ws ∷ b.shape; items = Numbers digits }) r ≡ Ok c → record { shape = length ws ∷ b.shape; items = Numbers (digits_by ws rs) } ≡ c
      ranged (Ok es) f e =
          let same : record { shape = length ws ∷ b.shape; items = Numbers es } ≡ c = cc in
          ap (λ (l : List ℤ). record { shape = length ws ∷ b.shape; items = Numbers l }) (all_in_range (digits_by ws rs) es f) ∙ same
      ranged (Err x) f e = absurd (cc)

      shaped : (d : Bool) → and_then (ok_map (λ u. length ws ∷ b.shape) (demand d Limit)) (digits_in ws rs) ≡ Ok c → record { shape = length ws ∷ b.shape; items = Numbers (digits_by ws rs) } ≡ c
      shaped true e = ranged (all_ok in_range (digits_by ws rs)) refl e
      shaped false e = absurd (cc)

  decoded : decode a digits ≡ Ok (left_of_each (product ws) b rs)
  unfolding digits
  decoded =
      ap (λ (r : Result (List ℤ × List ℤ × ℕ) Fault). and_then r (λ p. ok_map (λ values. record { shape = b.shape; items = Numbers values }) (all_ok (λ i. valued (pos 0) (map (base_and_digit p.0 (length ws ∷ b.shape) p.1 i) (range_with_len 0 p.2))) (indices b.shape)))) parts
      ∙ ap (λ (r : Result (List ℤ) Fault). ok_map (λ values. record { shape = b.shape; items = Numbers values }) r)
      (all_ok-same (λ i. is_within b.shape i ≡ true) (λ i. valued (pos 0) (map (base_and_digit ws (length ws ∷ b.shape) (digits_by ws rs) i) (range_with_len 0 (length ws)))) (λ i. residue (product ws) (get_or rs (position_in b.shape i) (pos 0)))
      (λ i w. ap (valued (pos 0)) (pairs-read ws rs b.shape i full w) ∙ value_of ws (get_or rs (position_in b.shape i) (pos 0)) (recursion_from_All (λ w. pos 0 <ℤ w) ws h.positive) h.fits)
      (indices b.shape) (all_within b.shape))
      ∙ ap (λ (l : List ℤ). Ok (record { shape = b.shape; items = Numbers l })) (residues-listed (product ws) rs b.shape full)
    where
      parts : bases_and_digits a (record { shape = length ws ∷ b.shape; items = Numbers (digits_by ws rs) }) ≡ Ok (ws, digits_by ws rs, length ws)
      parts =
          ap (λ (r : Result (Unit {0}) Fault). and_then r (λ u. and_then (joined_count (count_of a) (length ws)) (λ n. and_then (numbers_of a.items) (λ bases. ok_map (λ digits. (bases, digits, n)) (Ok (digits_by ws rs)))))) one_axis
          ∙ ap (λ (r : Result ℕ Fault). and_then r (λ n. and_then (numbers_of a.items) (λ bases. ok_map (λ digits. (bases, digits, n)) (Ok (digits_by ws rs))))) (joined-alike (count_of a) (length ws) counted)
          ∙ ap (λ (r : Result (List ℤ) Fault). and_then r (λ bases. ok_map (λ digits. (bases, digits, length ws)) (Ok (digits_by ws rs)))) h.bases_are

pub decodes_back : DecodesBack
unfolding digits
decodes_back a b c ws rs h g numbers e = subst (λ (x : Arr). decode a x ≡ Ok (left_of_each (product ws) b rs)) (encoded a b ws rs h g numbers c e) (decoded a b ws rs h g numbers)
