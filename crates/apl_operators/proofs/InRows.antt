-- Results for rows of numbers in turn.
use Rattle.std.proofs.Common.{zero, suc, ◌-◌, ◌≡◌, ℕ, ℤ, pos, ◌+◌, ◌*◌, ◌%◌, ◌<◌, ◌≤◌, List, [], ◌∷◌, Result, Ok, Err, refl, ap, sym, ◌∙◌, arith, length, get_or, drop}
use Rattle.std.specs.List.{range_with_len, slice_range}
use Rattle.std.proofs.lemmas.List.{get_or-take, get_or-drop, length-take, length-drop}
use Rattle.std.proofs.lemmas.Nat.{div-mul-add, mod-mul-add}
use Rattle.std.proofs.Math.Nat.{mul-le-mul_right}
use Rattle.apl_faults.specs.declared.fault.Fault.{Fault}
use Rattle.apl_arrays.specs.Results.{and_then, ok_map, all_ok}
use Rattle.apl_arrays.proofs.InTurn.{after, after_none, turns_part, turns_part_fault, turns_end}
use Rattle.apl_operators.specs.Places.{crossed}

shifted : {B E : Type 0} (h g : ℕ → Result B E) (m a n : ℕ) → ((q : ℕ) → a ≤ q → q < a + n → h (m + q) ≡ g q) → all_ok h (range_with_len (m + a) n) ≡ all_ok g (range_with_len a n)
shifted h g m a zero e = refl
shifted {B = B} {E = E} h g m a (suc n) e =
    ap (λ (r : Result B E). and_then r (λ y. ok_map (λ ys. y ∷ ys) (all_ok h (range_with_len (m + a + 1) n)))) (e a (omega arith) (omega arith))
    ∙ ap (λ (k : ℕ). and_then (g a) (λ y. ok_map (λ ys. y ∷ ys) (all_ok h (range_with_len k n)))) (there m a)
    ∙ ap (λ (r : Result (List B) E). and_then (g a) (λ y. ok_map (λ ys. y ∷ ys) r)) (shifted h g m (a + 1) n (λ q l k. e q (omega arith) (omega arith)))
  where
    there : (m a : ℕ) → m + a + 1 ≡ m + (a + 1)
    there m a = omega arith

-- the results for n numbers from m on are those for n numbers from 0 on
pub row_same : {B E : Type 0} (h g : ℕ → Result B E) (m n : ℕ) → ((q : ℕ) → q < n → h (m + q) ≡ g q) → all_ok h (range_with_len m n) ≡ all_ok g (range_with_len 0 n)
row_same h g m n e = ap (λ (k : ℕ). all_ok h (range_with_len k n)) (there m) ∙ shifted h g m 0 n (λ q l k. e q (omega arith))
  where
    there : (m : ℕ) → m ≡ m + 0
    there m = omega arith

-- the values for a part of numbers are those for its places
pub block_same : (m : ℤ → Result ℤ Fault) (ys : List ℤ) (from till : ℕ) → from ≤ till → till ≤ length ys →
    all_ok (λ k. m (get_or ys k (pos 0))) (range_with_len from (till - from)) ≡ all_ok (λ k. m (get_or (slice_range ys from till) k (pos 0))) (range_with_len 0 (length (slice_range ys from till)))
block_same m ys from till h g =
    row_same (λ k. m (get_or ys k (pos 0))) (λ k. m (get_or (slice_range ys from till) k (pos 0))) from (till - from) (λ q l. ap m (sym (range_at ys from till q l)))
    ∙ ap (λ (n : ℕ). all_ok (λ k. m (get_or (slice_range ys from till) k (pos 0))) (range_with_len 0 n)) (sym size)
  where
    range_at : (ys : List ℤ) (from till q : ℕ) → q < till - from → get_or (slice_range ys from till) q (pos 0) ≡ get_or ys (from + q) (pos 0)
    range_at ys from till q l = get_or-take (till - from) (drop from ys) q (pos 0) l ∙ get_or-drop from ys q (pos 0)

    size : length (slice_range ys from till) ≡ till - from
    size = simp (length-take, length-drop) (omega arith)

-- rows of t numbers each, one after another: at the start, one more row, a fault in a row, and the end
pub rows_start : (h : ℕ → Result ℤ Fault) (out : List ℤ) (t n : ℕ) → out ≡ [] → after out (all_ok h (range_with_len (0 * t) (n - 0 * t))) ≡ all_ok h (range_with_len 0 n)
rows_start h out t n e =
    ap (λ l. after l (all_ok h (range_with_len (0 * t) (n - 0 * t)))) e ∙ after_none (all_ok h (range_with_len (0 * t) (n - 0 * t)))
    ∙ ap (λ k. all_ok h (range_with_len k (n - 0 * t))) (none t) ∙ ap (λ m. all_ok h (range_with_len 0 m)) (all n t)
  where
    none : (t : ℕ) → 0 * t ≡ 0
    none t = omega arith

    all : (n t : ℕ) → n - 0 * t ≡ n
    all n t = omega arith

row_part : (h row : ℕ → Result ℤ Fault) (i t : ℕ) → ((q : ℕ) → q < t → h (i * t + q) ≡ row q) → all_ok h (range_with_len (i * t) ((i + 1) * t - i * t)) ≡ all_ok row (range_with_len 0 t)
row_part h row i t each = ap (λ n. all_ok h (range_with_len (i * t) n)) (one i t) ∙ row_same h row (i * t) t each
  where
    one : (i t : ℕ) → (i + 1) * t - i * t ≡ t
    one i t = omega arith

row_order : (i t : ℕ) → i * t ≤ (i + 1) * t
row_order i t = omega arith

pub rows_step : (h row : ℕ → Result ℤ Fault) (old new : List ℤ) (i s t : ℕ) → i < s → ((q : ℕ) → q < t → h (i * t + q) ≡ row q) → after old (all_ok row (range_with_len 0 t)) ≡ Ok new →
    after new (all_ok h (range_with_len ((i + 1) * t) (s * t - (i + 1) * t))) ≡ after old (all_ok h (range_with_len (i * t) (s * t - i * t)))
rows_step h row old new i s t l each e =
    turns_part h old new (i * t) ((i + 1) * t) (s * t) (row_order i t) (mul-le-mul_right t (omega arith)) (ap (after old) (row_part h row i t each) ∙ e)

pub rows_fault : (h row : ℕ → Result ℤ Fault) (old : List ℤ) (e : Fault) (i s t : ℕ) → i < s → ((q : ℕ) → q < t → h (i * t + q) ≡ row q) → all_ok row (range_with_len 0 t) ≡ Err e →
    after old (all_ok h (range_with_len (i * t) (s * t - i * t))) ≡ Err e
rows_fault h row old e i s t l each g =
    turns_part_fault h old e (i * t) ((i + 1) * t) (s * t) (row_order i t) (mul-le-mul_right t (omega arith)) (row_part h row i t each ∙ g)

pub rows_end : (h : ℕ → Result ℤ Fault) (out : List ℤ) (i s t : ℕ) → s ≤ i → after out (all_ok h (range_with_len (i * t) (s * t - i * t))) ≡ Ok out
rows_end h out i s t l = turns_end h out (i * t) (s * t) (mul-le-mul_right t l)

-- a row of a function of each number with each
pub crossed_row : (m : ℤ → ℤ → Result ℤ Fault) (xs ys : List ℤ) (i q : ℕ) → q < length ys → crossed m xs ys (i * length ys + q) ≡ m (get_or xs i (pos 0)) (get_or ys q (pos 0))
crossed_row m xs ys i q h =
    ap (λ (k : ℕ). m (get_or xs k (pos 0)) (get_or ys ((i * length ys + q) % length ys) (pos 0))) (div-mul-add i (length ys) q h)
    ∙ ap (λ (k : ℕ). m (get_or xs i (pos 0)) (get_or ys k (pos 0))) (mod-mul-add i (length ys) q h)
