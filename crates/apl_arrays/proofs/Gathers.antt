-- Elements appended one after another, along an axis and row by row.
use Rattle.std.proofs.Common.{length, get_or, take, drop, suc, ◌≡◌, ℕ, ◌+◌, ◌*◌, ◌-◌, ◌<◌, ◌≤◌, true, List, [], ◌∷◌, ◌++◌, map, refl, ap, sym, ◌∙◌, arith, append_assoc, append-nil}
use Rattle.std.proofs.lemmas.List.{get_or-drop, get_or-take, length-drop, length-take-le, map-append}
use Rattle.std.proofs.lemmas.List.FromFn.{fill_by_all}
use Rattle.std.proofs.lemmas.Grind.{common_steps}
use Rattle.std.specs.List.{flat_map, range_with_len}
use Rattle.apl_arrays.specs.declared.axis.Axis.{Axis}
use Rattle.apl_arrays.specs.Index.{indices, is_within}
use Rattle.apl_arrays.specs.Strides.{lengths, step_at, place_at, reach_of}
pub use Rattle.apl_arrays.specs.inside.Rows.{rows_from}
use Rattle.apl_arrays.proofs.InTurn.{range_step, range_none}
use Rattle.apl_arrays.proofs.Order.{map_map, within_cons}
use Rattle.apl_arrays.proofs.Steps.{reach_step, no_axis}

pub line_step : {A : Type 0} (h : ℕ → A) (out new : List A) (k n : ℕ) → k < n → new ≡ out ++ h k ∷ [] → new ++ map h (range_with_len (k + 1) (n - (k + 1))) ≡ out ++ map h (range_with_len k (n - k))
line_step h out new k n l e =
    ap (λ z. z ++ map h (range_with_len (k + 1) (n - (k + 1)))) e ∙ append_assoc out (h k ∷ []) (map h (range_with_len (k + 1) (n - (k + 1)))) ∙ ap (λ z. out ++ map h z) (sym (range_step k n l))

pub line_end : {A : Type 0} (h : ℕ → A) (out : List A) (k n : ℕ) → n ≤ k → out ++ map h (range_with_len k (n - k)) ≡ out
line_end h out k n l = ap (λ z. out ++ map h z) (range_none k n l) ∙ append-nil out

pub from_none : (n : ℕ) → n - 0 ≡ n
from_none n = omega arith

pub line_start : {A : Type 0} (h : ℕ → A) (out : List A) (n : ℕ) → out ++ map h (range_with_len 0 (n - 0)) ≡ out ++ map h (range_with_len 0 n)
line_start h out n = ap (λ m. out ++ map h (range_with_len 0 m)) (from_none n)

pub row_step : {A : Type 0} (h : List ℕ → A) (ns : List ℕ) (i n : ℕ) (out new : List A) → i < n → new ≡ out ++ map (λ is. h (i ∷ is)) (indices ns) → new ++ map h (rows_from ns (i + 1) n) ≡ out ++ map h (rows_from ns i n)
row_step h ns i n out new l e =
    ap (λ z. z ++ map h (rows_from ns (i + 1) n)) (e ∙ ap (λ z. out ++ z) (sym (map_map h (λ is. i ∷ is) (indices ns))))
    ∙ append_assoc out (map h (map (λ is. i ∷ is) (indices ns))) (map h (rows_from ns (i + 1) n))
    ∙ ap (λ z. out ++ z) (sym (map-append h (map (λ is. i ∷ is) (indices ns)) (rows_from ns (i + 1) n)))
    ∙ ap (λ z. out ++ map h (flat_map (λ i. map (λ is. i ∷ is) (indices ns)) z)) (sym (range_step i n l))

pub rows_end : {A : Type 0} (h : List ℕ → A) (ns : List ℕ) (i n : ℕ) (out : List A) → n ≤ i → out ++ map h (rows_from ns i n) ≡ out
rows_end h ns i n out l = ap (λ z. out ++ map h (flat_map (λ i. map (λ is. i ∷ is) (indices ns)) z)) (range_none i n l) ∙ append-nil out

pub rows_start : {A : Type 0} (h : List ℕ → A) (ns : List ℕ) (n : ℕ) (out : List A) → out ++ map h (rows_from ns 0 n) ≡ out ++ map h (indices (n ∷ ns))
rows_start h ns n out = ap (λ m. out ++ map h (flat_map (λ i. map (λ is. i ∷ is) (indices ns)) (range_with_len 0 m))) (from_none n)

-- the index lists of one axis are its indices
pub one_axis : {A : Type 0} (h : List ℕ → A) (n : ℕ) → map h (indices (n ∷ [])) ≡ map (λ k. h (k ∷ [])) (range_with_len 0 n)
one_axis {A = A} h n = each (range_with_len 0 n)
  where
    each : (ks : List ℕ) → map h (flat_map (λ i. map (λ is. i ∷ is) (indices [])) ks) ≡ map (λ k. h (k ∷ [])) ks
    each [] = refl
    each (k ∷ ks) = ap (λ (l : List A). h (k ∷ []) ∷ l) (each ks)

-- the first axis and the others, as a pattern has them
abbrev pub first_axis : List Axis → Axis
first_axis xs = get_or xs 0 no_axis

abbrev pub other_axes : List Axis → List Axis
other_axes xs = take (length xs - 1) (drop 1 xs)

pub parts : (xs : List Axis) → 1 ≤ length xs → xs ≡ first_axis xs ∷ other_axes xs
parts [] h = absurd (omega arith)
parts (x ∷ xs) h = ap (λ l. x ∷ l) (sym (whole xs))
  where
    whole : (xs : List Axis) → take (suc (length xs) - 1) (drop 1 (x ∷ xs)) ≡ xs
    whole xs = grind (arith, common_steps)

pub only_axis : (xs : List Axis) → length xs ≡ 1 → xs ≡ first_axis xs ∷ []
only_axis [] h = absurd (omega arith)
only_axis (x ∷ []) h = refl
only_axis (x ∷ y ∷ xs) h = absurd (omega arith)

-- what holds at each place holds at each place of a row
pub placed_row : (P : ℕ → Type 0) (a : Axis) (ys : List Axis) (p i q : ℕ) → i < a.length → ((is : List ℕ) → is_within (lengths (a ∷ ys)) is ≡ true → P (place_at p (a ∷ ys) is)) →
    q ≡ p + step_at a i → (is : List ℕ) → is_within (lengths ys) is ≡ true → P (place_at q ys is)
placed_row P a ys p i q l f e is w = rw e (f (i ∷ is) (within_cons a.length i (lengths ys) is l w))

pub near_row : (a : Axis) (ys : List Axis) (p i q n : ℕ) → i < a.length → reach_of p (a ∷ ys) < n → q ≡ p + step_at a i → reach_of q ys < n
near_row a ys p i q n l r e = rw e (smaller (reach_of (p + step_at a i) ys) (reach_of p (a ∷ ys)) n (reach_step p a ys i l) r)
  where
    smaller : (a b n : ℕ) → a ≤ b → b < n → a < n
    smaller a b n h k = omega arith

-- the elements along an axis that lie side by side
pub side_by_side : {A : Type 0} (raw : List A) (d : A) (at : ℕ) (a : Axis) → a.up ≡ 1 → a.down ≡ 0 → at + a.length ≤ length raw →
    take a.length (drop at raw) ≡ map (λ k. get_or raw (at + step_at a k) d) (range_with_len 0 a.length)
side_by_side raw d at a u v h =
    fill_by_all (λ k. get_or raw (at + step_at a k) d) (take a.length (drop at raw)) a.length d (length-take-le a.length (drop at raw) (omega (arith, length-drop at raw)))
    (λ k l. get_or-take a.length (drop at raw) k d l ∙ get_or-drop at raw k d ∙ ap (λ (p : ℕ). get_or raw (at + p) d) (step a.up a.down k (a.length - 1 - k) u v))
  where
    step : (m n k j : ℕ) → m ≡ 1 → n ≡ 0 → k ≡ m * k + n * j
    step m n k j u v = rw (u, v) (omega arith)

-- they lie within the ravel
pub side_within : (at n : ℕ) (a : Axis) → a.up ≡ 1 → a.down ≡ 0 → 0 < a.length → at + step_at a (a.length - 1) < n → at + a.length ≤ n
side_within at n a u v h l = omega (arith, last a.up a.down (a.length - 1) (a.length - 1 - (a.length - 1)) u v)
  where
    last : (m n k j : ℕ) → m ≡ 1 → n ≡ 0 → m * k + n * j ≡ k
    last m n k j u v = rw (u, v) (omega arith)
