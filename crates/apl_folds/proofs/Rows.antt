-- The items of lines.
use Rattle.std.proofs.Common.{suc, zero, ◌≡◌, ℕ, ◌+◌, ◌-◌, ◌*◌, ◌<◌, ◌≤◌, List, [], ◌∷◌, map, length, get_or, take, drop, refl, ap, sym, ◌∙◌, ◌++◌, add-one, arith, ◌/◌, ◌^◌}
use Rattle.std.specs.Prelude.{slice_range}
use Rattle.std.specs.List.{range_with_len}
use Rattle.std.proofs.lemmas.List.{length-map, length-take-le, length-drop, get_or-take, get_or-drop}
use Rattle.std.proofs.lemmas.List.FromFn.{length-range_with_len, get_or-map-range_with_len, fill_by_all}
use Rattle.std.proofs.Math.Nat.{div-add-mod, mul-le-mul_right}
use Rattle.apl_arrays.specs.declared.axis.Axis.{Axis}
use Rattle.apl_arrays.specs.Strides.{step_at}
use Rattle.apl_folds.specs.Lines.{line_of, IsLine}

pub length-line : {A : Type 0} (none : A) (raw : List A) (axis : Axis) (p count : ℕ) → length (line_of none raw axis p count) ≡ count
length-line none raw axis p count = length-map (range_with_len 0 count) (λ k. get_or raw (p + step_at axis k) none) ∙ length-range_with_len 0 count

pub line_at : {A : Type 0} (none : A) (raw : List A) (axis : Axis) (p count k : ℕ) → k < count → get_or (line_of none raw axis p count) k none ≡ get_or raw (p + step_at axis k) none
line_at none raw axis p count k h = get_or-map-range_with_len (λ k. get_or raw (p + step_at axis k) none) 0 count k k none h (there k)
  where
    there : (k : ℕ) → 0 + k ≡ k
    there k = omega arith

-- the first items of a line
pub take_range : {A : Type 0} (h : ℕ → A) (a m n : ℕ) → m ≤ n → take m (map h (range_with_len a n)) ≡ map h (range_with_len a m)
take_range h a zero zero l = refl
take_range h a zero (suc n) l = refl
take_range h a (suc m) zero l = absurd (omega arith)
take_range {A = A} h a (suc m) (suc n) l = ap (λ (xs : List A). h a ∷ xs) (take_range h (a + 1) m n (omega arith))

-- items side by side
pub side_by_side : {A : Type 0} (none : A) (raw : List A) (axis : Axis) (p count : ℕ) → axis.up ≡ 1 → axis.down ≡ 0 → p + count ≤ length raw → slice_range raw p (p + count) ≡ line_of none raw axis p count
side_by_side none raw axis p count u d h =
    fill_by_all (λ k. get_or raw (p + step_at axis k) none) (slice_range raw p (p + count)) count none
    (length-take-le (p + count - p) (drop p raw) (omega (arith, length-drop p raw)) ∙ same p count)
    (λ k l. get_or-take (p + count - p) (drop p raw) k none (omega arith) ∙ get_or-drop p raw k none ∙ ap (λ (q : ℕ). get_or raw (p + q) none) (step axis.up axis.down k (axis.length - 1 - k) u d))
  where
    same : (p c : ℕ) → p + c - p ≡ c
    same p c = omega arith

    step : (u d k m : ℕ) → u ≡ 1 → d ≡ 0 → k ≡ u * k + d * m
    step u d k m e f = rw (e, f) (there k m)
      where
        there : (k m : ℕ) → k ≡ 1 * k + 0 * m
        there k m = omega arith

pub line_within : (axis : Axis) (p count n : ℕ) → axis.up ≡ 1 → axis.down ≡ 0 → IsLine n axis p count → p + count ≤ n
line_within axis p count n u d h = last axis.up axis.down (count - 1) (axis.length - 1 - (count - 1)) p n count u d (omega (arith, h.some)) (h.placed (count - 1) (omega (arith, h.some, h.within)))
  where
    last : (u d k m p n count : ℕ) → u ≡ 1 → d ≡ 0 → count ≡ k + 1 → p + (u * k + d * m) < n → p + count ≤ n
    last u d k m p n count e f s h = let g : p + (1 * k + 0 * m) < n = rw (e, f) at h in omega arith

range_more : {A : Type 0} (h : ℕ → A) (a n : ℕ) → map h (range_with_len a (suc n)) ≡ map h (range_with_len a n) ++ h (a + n) ∷ []
range_more {A = A} h a zero = ap (λ (k : ℕ). h k ∷ []) (same a)
  where
    same : (a : ℕ) → a ≡ a + 0
    same a = omega arith
range_more {A = A} h a (suc n) = ap (λ (l : List A). h a ∷ l) (range_more h (a + 1) n ∙ ap (λ (k : ℕ). map h (range_with_len (a + 1) n) ++ h k ∷ []) (same a n))
  where
    same : (a n : ℕ) → a + 1 + n ≡ a + suc n
    same a n = omega arith

-- one item more
pub line_more : {A : Type 0} (none : A) (raw : List A) (axis : Axis) (p k : ℕ) → line_of none raw axis p k ++ get_or raw (p + step_at axis k) none ∷ [] ≡ line_of none raw axis p (k + 1)
line_more {A = A} none raw axis p k =
    sym (ap (λ (m : ℕ). line_of none raw axis p m) (add-one k) ∙ range_more (λ k. get_or raw (p + step_at axis k) none) 0 k
    ∙ ap (λ (m : ℕ). line_of none raw axis p k ++ get_or raw (p + step_at axis m) none ∷ []) (none_before k))
  where
    none_before : (k : ℕ) → 0 + k ≡ k
    none_before k = omega arith

-- the numbers at an index of lines that begin side by side
pub all_placed : (n : ℕ) (a : Axis) (at lines count index : ℕ) → index < count → ((j : ℕ) → j < lines → IsLine n a (at + j) count) → (j : ℕ) → j < lines → at + j + step_at a index < n
all_placed n a at lines count index h all j l =
    let line = all j l in
    line.placed index (omega (arith, line.within))

pub first_near : (n : ℕ) (a : Axis) (at lines count : ℕ) → 0 < lines → ((j : ℕ) → j < lines → IsLine n a (at + j) count) → at + (a.up + a.down) * a.length < 2 ^ 63
first_near n a at lines count some all =
    let line = all 0 some in
    omega (arith, line.near)

-- whole rows of so many numbers
pub whole_row : (n w row : ℕ) → row < n / w → row * w + w ≤ n
whole_row n w row h =
    let rows : (row + 1) * w ≤ n / w * w = mul-le-mul_right w (omega arith) in
    omega (arith, rows, div-add-mod n w)
