-- Shapes without an axis.
use Rattle.std.proofs.Common.{zero, suc, ◌≡◌, ◌≢◌, ℕ, ℤ, ◌+◌, ◌-◌, ◌*◌, ◌/◌, ◌%◌, ◌≤◌, Bool, true, false, nat_lt, cond, List, [], ◌∷◌, ◌++◌, length, get_or, take, drop, map, max, Result, Ok, Err, refl, ap, sym, ◌∙◌, arith}
use Rattle.std.specs.Prelude.{◌==◌}
use Rattle.std.specs.List.{range_with_len}
use Rattle.std.proofs.lemmas.Bool.{eqb-true}
use Rattle.std.proofs.Math.Nat.{mul-le-mul_left, mul-le-mul_right}
use Rattle.apl_faults.specs.declared.fault.Fault.{Fault}
use Rattle.apl_faults.specs.declared.fault.Fault.TheVariants.{Length}
use Rattle.apl_arrays.specs.declared.cell.Cell.TheVariants.{Num}
use Rattle.apl_arrays.specs.Index.{size_of, bound_of, indices, is_within, position_in}
use Rattle.apl_arrays.specs.Axes.{without, inserted}
use Rattle.apl_arrays.specs.Cells.{Arr}
use Rattle.apl_arrays.specs.Checks.{limited}
use Rattle.apl_arrays.specs.Results.{and_then, ok_map, all_ok}
use Rattle.apl_scalar.specs.Extension.{numbers_in}
use Rattle.apl_arrays.proofs.InTurn.{turns_same, all_ok-same}
use Rattle.apl_arrays.proofs.Order.{by_places, all_within}
use Rattle.apl_arrays.proofs.Places.{both}
use Rattle.apl_scalar.specs.declared.function.Dyadic.{Dyadic}
use Rattle.apl_folds.specs.Folds.{folded}
use Rattle.apl_operators.specs.declared.joint.Joint.{Joint}
use Rattle.apl_operators.specs.Products.{joined_length, joined_item, length_or_one, last_axis, extended_index, met_items, all_folded, inner_product}
use Rattle.apl_operators.specs.Places.{cells_met}
use Rattle.apl_operators.specs.Joints.{met_cells, folds_of, Joins}
use Rattle.apl_operators.proofs.Crossing.{size_of-append, parted, left_place, right_place}

pub take_without : (k : ℕ) (s : List ℕ) → length s ≡ suc k → take k s ≡ without k s
take_without k [] h = absurd (omega arith)
take_without zero (n ∷ []) h = refl
take_without zero (n ∷ m ∷ s) h = absurd (omega arith)
take_without (suc k) (n ∷ s) h = ap (λ l. n ∷ l) (take_without k s (omega arith))

pub length-without : (k : ℕ) (s : List ℕ) → length (without k s) ≤ length s
length-without k [] = omega arith
length-without zero (n ∷ s) = omega arith
length-without (suc k) (n ∷ s) = omega (arith, length-without k s)

length_less : (k : ℕ) (s : List ℕ) → length s ≡ suc k → length (without k s) ≡ k
length_less k [] h = absurd (omega arith)
length_less zero (n ∷ s) h = omega arith
length_less (suc k) (n ∷ s) h = ap suc (length_less k s (omega arith))

pub length_others : (s : List ℕ) → length (without (length s - 1) s) ≡ length s - 1
length_others [] = omega arith
length_others (n ∷ s) = length_less (suc (length s) - 1) (n ∷ s) (omega arith)

pub bound_without : (k : ℕ) (s : List ℕ) → bound_of (without k s) ≤ bound_of s
bound_without k [] = omega arith
bound_without zero (n ∷ s) = let h : 1 * bound_of s ≤ max n 1 * bound_of s = mul-le-mul_right (bound_of s) (omega arith) in omega arith
bound_without (suc k) (n ∷ s) = mul-le-mul_left (max n 1) (bound_without k s)

size_without : (k : ℕ) (s : List ℕ) → length s ≡ suc k → size_of s ≡ size_of (without k s) * get_or s k 1
size_without k [] h = absurd (omega arith)
size_without zero (n ∷ []) h = omega arith
size_without zero (n ∷ m ∷ s) h = absurd (omega arith)
size_without (suc k) (n ∷ s) h = ap (λ m. n * m) (size_without k s (omega arith)) ∙ turn n (size_of (without k s)) (get_or s k 1)
  where
    turn : (n a b : ℕ) → n * (a * b) ≡ (n * a) * b
    turn n a b = omega arith

pub size_last : (s : List ℕ) → size_of s ≡ size_of (without (length s - 1) s) * get_or s (length s - 1) 1
size_last [] = omega arith
size_last (n ∷ s) = size_without (suc (length s) - 1) (n ∷ s) (omega arith)

pub size_first : (s : List ℕ) → size_of s ≡ get_or s 0 1 * size_of (without 0 s)
size_first [] = omega arith
size_first (n ∷ s) = refl

-- the place of an index list with one more at the last axis
position_with : (k : ℕ) (s i : List ℕ) (x : ℕ) → length s ≡ suc k → is_within (without k s) i ≡ true → position_in s (inserted k x i) ≡ position_in (without k s) i * get_or s k 1 + x
position_with k [] i x h w = absurd (omega arith)
position_with zero (n ∷ []) i x h w = omega arith
position_with zero (n ∷ m ∷ s) i x h w = absurd (omega arith)
position_with (suc k) (n ∷ s) [] x h w = absurd (cc)
position_with (suc k) (n ∷ s) (y ∷ i) x h w =
    turn y (size_of s) (size_of (without k s)) (get_or s k 1) (position_in s (inserted k x i)) (position_in (without k s) i) x (size_without k s (omega arith))
    (position_with k s i x (omega arith) (both (nat_lt y n) (is_within (without k s) i) w).1)
  where
    turn : (y m a b p q x : ℕ) → m ≡ a * b → p ≡ q * b + x → y * m + p ≡ (y * a + q) * b + x
    turn y m a b p q x e f = rw (e, f) (ring y a b q x)
      where
        ring : (y a b q x : ℕ) → y * (a * b) + (q * b + x) ≡ (y * a + q) * b + x
        ring y a b q x = omega arith

pub position_last : (s i : List ℕ) (k : ℕ) → is_within (without (length s - 1) s) i ≡ true →
    position_in s (inserted (length s - 1) (extended_index (get_or s (length s - 1) 1) k) i) ≡ position_in (without (length s - 1) s) i * get_or s (length s - 1) 1 + extended_index (get_or s (length s - 1) 1) k
position_last [] i k w = omega arith
position_last (n ∷ s) i k w = position_with (suc (length s) - 1) (n ∷ s) i (extended_index (get_or (n ∷ s) (suc (length s) - 1) 1) k) (omega arith) w

pub position_first : (s i : List ℕ) (k : ℕ) → position_in s (inserted 0 (extended_index (get_or s 0 1) k) i) ≡ extended_index (get_or s 0 1) k * size_of (without 0 s) + position_in (without 0 s) i
position_first [] i k = omega arith
position_first (n ∷ s) i k = refl

abbrev ok_length : ℕ → Result ℕ Fault
ok_length n = Ok n

-- axes that are joined have the length, or extend
pub joined_fits : (m n j : ℕ) → joined_length m n ≡ Ok j → (m ≢ 1 → m ≡ j) × (n ≢ 1 → n ≡ j)
joined_fits m n j e = each (m == 1) (n == 1) (m == n) refl refl refl e
  where
    each : (a b c : Bool) → (m == 1) ≡ a → (n == 1) ≡ b → (m == n) ≡ c → cond a (ok_length n) (cond b (Ok m) (cond c (Ok m) (Err Length))) ≡ Ok j → (m ≢ 1 → m ≡ j) × (n ≢ 1 → n ≡ j)
    each true b c p q r e = let same : n ≡ j = cc in (λ h. absurd (h (eqb-true m 1 p)), λ h. same)
    each false true c p q r e = let same : m ≡ j = cc in (λ h. same, λ h. absurd (h (eqb-true n 1 q)))
    each false false true p q r e = let same : m ≡ j = cc in (λ h. same, λ h. sym (eqb-true m n r) ∙ same)
    each false false false p q r e = absurd (cc)

-- the shape of all axes but the last, and that of all but the first
abbrev others_of : Arr → List ℕ
others_of a = without (last_axis a) a.shape

abbrev after_first : Arr → List ℕ
after_first b = without 0 b.shape

-- what meets for each index list of the result, by places
pub by_meeting : (f g : Dyadic) (a b : Arr) (j : Joint) → j.rows ≡ size_of (without (last_axis a) a.shape) → j.columns ≡ size_of (without 0 b.shape) → j.left ≡ length_or_one (last_axis a) a → j.right ≡ length_or_one 0 b →
    all_folded f (met_items g (joined_item (last_axis a) a) (joined_item 0 b) (last_axis a) j.joined) (indices (without (last_axis a) a.shape ++ without 0 b.shape))
    ≡ folds_of f (met_cells g a.items b.items j) (range_with_len 0 (j.rows * j.columns))
by_meeting f g a b j rows columns left right =
    ap (λ (q : Result (List (List ℤ)) Fault). and_then q (λ rows. all_ok (λ row. folded f (map Num row)) rows))
    (all_ok-same (λ i. is_within (others_of a ++ after_first b) i ≡ true) (met_items g (joined_item (last_axis a) a) (joined_item 0 b) (last_axis a) j.joined) (λ i. met_cells g a.items b.items j (position_in (others_of a ++ after_first b) i)) each (indices (others_of a ++ after_first b)) (all_within (others_of a ++ after_first b))
    ∙ by_places (others_of a ++ after_first b) (met_cells g a.items b.items j)
    ∙ ap (λ (n : ℕ). all_ok (met_cells g a.items b.items j) (range_with_len 0 n)) (size_of-append (others_of a) (after_first b) ∙ ap (λ m. m * size_of (after_first b)) (sym rows) ∙ ap (λ n. j.rows * n) (sym columns)))
  where
    each : (i : List ℕ) → is_within (others_of a ++ after_first b) i ≡ true → met_items g (joined_item (last_axis a) a) (joined_item 0 b) (last_axis a) j.joined i ≡ met_cells g a.items b.items j (position_in (others_of a ++ after_first b) i)
    each i w =
        let p = parted (others_of a) (after_first b) i w in
        let l : is_within (others_of a) (take (last_axis a) i) ≡ true = rw (length_others a.shape) at p.left in
        turns_same _ _ j.joined (λ k h.
        ap (λ (n : ℕ). cells_met g a.items b.items n (position_in b.shape (inserted 0 (extended_index (length_or_one 0 b) k) (drop (last_axis a) i))))
        (position_last a.shape (take (last_axis a) i) k l
        ∙ ap (λ (m : ℕ). position_in (others_of a) (take m i) * length_or_one (last_axis a) a + extended_index (length_or_one (last_axis a) a) k) (sym (length_others a.shape))
        ∙ ap (λ (m : ℕ). m * length_or_one (last_axis a) a + extended_index (length_or_one (last_axis a) a) k) (sym (left_place (others_of a) (after_first b) i w) ∙ ap (λ (c : ℕ). position_in (others_of a ++ after_first b) i / c) (sym columns))
        ∙ ap (λ (l : ℕ). (position_in (others_of a ++ after_first b) i / j.columns) * l + extended_index l k) (sym left))
        ∙ ap (cells_met g a.items b.items ((position_in (others_of a ++ after_first b) i / j.columns) * j.left + extended_index j.left k))
        (position_first b.shape (drop (last_axis a) i) k
        ∙ ap (λ (m : ℕ). extended_index (length_or_one 0 b) k * size_of (after_first b) + position_in (after_first b) (drop m i)) (sym (length_others a.shape))
        ∙ ap (λ (m : ℕ). extended_index (length_or_one 0 b) k * size_of (after_first b) + m) (sym (right_place (others_of a) (after_first b) i w))
        ∙ ap (λ (c : ℕ). extended_index (length_or_one 0 b) k * c + position_in (others_of a ++ after_first b) i % c) (sym columns)
        ∙ ap (λ (l : ℕ). extended_index l k * j.columns + position_in (others_of a ++ after_first b) i % j.columns) (sym right)))

-- what is joined of two arrays
pub joins : (a b : Arr) (j : Joint) (m n : ℕ) → j.rows ≡ size_of (without (last_axis a) a.shape) → j.columns ≡ size_of (without 0 b.shape) → j.left ≡ length_or_one (last_axis a) a → j.right ≡ length_or_one 0 b →
    m ≡ size_of a.shape → n ≡ size_of b.shape → joined_length (length_or_one (last_axis a) a) (length_or_one 0 b) ≡ Ok j.joined → Joins j m n
joins a b j m n rows columns left right full_a full_b e =
    let fits = joined_fits j.left j.right j.joined (rw (left, right) e) in
    record {
      left = full_a ∙ size_last a.shape ∙ ap (λ (k : ℕ). k * length_or_one (last_axis a) a) (sym rows) ∙ ap (λ (k : ℕ). j.rows * k) (sym left);
      right = full_b ∙ size_first b.shape ∙ ap (λ (k : ℕ). k * size_of (without 0 b.shape)) (sym right) ∙ ap (λ (k : ℕ). j.right * k) (sym columns);
      left_fits = fits.0;
      right_fits = fits.1;
    }

-- the whole definition, where the length and the shape are known
pub inner_in_shape : (f g : Dyadic) (a b : Arr) (n : ℕ) (s : List ℕ) → s ≡ without (last_axis a) a.shape ++ without 0 b.shape → joined_length (length_or_one (last_axis a) a) (length_or_one 0 b) ≡ Ok n → limited s ≡ Ok s →
    inner_product f g a b ≡ ok_map (numbers_in s) (all_folded f (met_items g (joined_item (last_axis a) a) (joined_item 0 b) (last_axis a) n) (indices s))
inner_in_shape f g a b n s made e h =
    ap (λ (r : Result ℕ Fault). and_then r (λ n. and_then (limited (without (last_axis a) a.shape ++ without 0 b.shape)) (λ s. ok_map (numbers_in s) (all_folded f (met_items g (joined_item (last_axis a) a) (joined_item 0 b) (last_axis a) n) (indices s))))) e
    ∙ ap (λ (t : List ℕ). and_then (limited t) (λ s. ok_map (numbers_in s) (all_folded f (met_items g (joined_item (last_axis a) a) (joined_item 0 b) (last_axis a) n) (indices s)))) (sym made)
    ∙ ap (λ (r : Result (List ℕ) Fault). and_then r (λ s. ok_map (numbers_in s) (all_folded f (met_items g (joined_item (last_axis a) a) (joined_item 0 b) (last_axis a) n) (indices s)))) h
