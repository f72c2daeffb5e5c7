-- Index lists of two shapes together, and the places of their parts.
use Rattle.std.proofs.Common.{◌≡◌, ℕ, ◌+◌, ◌*◌, ◌/◌, ◌%◌, true, nat_lt, List, [], ◌∷◌, ◌++◌, length, take, drop, refl, ap, sym, ◌∙◌, arith}
use Rattle.std.specs.List.{range_with_len}
use Rattle.std.proofs.lemmas.Nat.{div-mul-add, mod-mul-add}
use Rattle.apl_arrays.specs.Index.{size_of, indices, is_within, position_in}
use Rattle.apl_arrays.specs.Cells.{Arr, cells_of}
use Rattle.apl_arrays.specs.Results.{all_ok}
use Rattle.apl_arrays.proofs.InTurn.{all_ok-same}
use Rattle.apl_arrays.proofs.Order.{by_places, all_within}
use Rattle.apl_arrays.proofs.Places.{both, within_head, position_in-lt}
use Rattle.apl_arrays.proofs.Order.{within_cons}
use Rattle.apl_scalar.specs.declared.function.Dyadic.{Dyadic}
use Rattle.apl_operators.specs.Products.{paired}
use Rattle.apl_operators.specs.Places.{cells_met, crossed_cells}

pub size_of-append : (s t : List ℕ) → size_of (s ++ t) ≡ size_of s * size_of t
size_of-append [] t = omega arith
size_of-append (n ∷ s) t = ap (λ m. n * m) (size_of-append s t) ∙ turn n (size_of s) (size_of t)
  where
    turn : (n a b : ℕ) → n * (a * b) ≡ (n * a) * b
    turn n a b = omega arith

-- an index list within two shapes together: its parts are within each, and its place is made of theirs
pub record Parted (s t i : List ℕ) : Type 0 where
  pub left : is_within s (take (length s) i) ≡ true
  pub right : is_within t (drop (length s) i) ≡ true
  pub place : position_in (s ++ t) i ≡ position_in s (take (length s) i) * size_of t + position_in t (drop (length s) i)

pub parted : (s t i : List ℕ) → is_within (s ++ t) i ≡ true → Parted s t i
parted [] t i w = record { left = refl; right = w; place = omega arith }
parted (n ∷ s) t [] w = absurd (cc)
parted (n ∷ s) t (k ∷ i) w =
    let rest = parted s t i (both (nat_lt k n) (is_within (s ++ t) i) w).1 in
    record {
      left = within_cons n k s (take (length s) i) (within_head n k (s ++ t) i w) rest.left;
      right = rest.right;
      place = turn k (size_of (s ++ t)) (size_of s) (size_of t) (position_in (s ++ t) i) (position_in s (take (length s) i)) (position_in t (drop (length s) i)) (size_of-append s t) rest.place;
    }
  where
    turn : (k n a b r p q : ℕ) → n ≡ a * b → r ≡ p * b + q → k * n + r ≡ (k * a + p) * b + q
    turn k n a b r p q e f = rw (e, f) (ring k a b p q)
      where
        ring : (k a b p q : ℕ) → k * (a * b) + (p * b + q) ≡ (k * a + p) * b + q
        ring k a b p q = omega arith

-- so its place tells those of its parts
pub left_place : (s t i : List ℕ) → is_within (s ++ t) i ≡ true → position_in (s ++ t) i / size_of t ≡ position_in s (take (length s) i)
left_place s t i w =
    let p = parted s t i w in
    ap (λ n. n / size_of t) p.place ∙ div-mul-add (position_in s (take (length s) i)) (size_of t) (position_in t (drop (length s) i)) (position_in-lt t (drop (length s) i) p.right)

pub right_place : (s t i : List ℕ) → is_within (s ++ t) i ≡ true → position_in (s ++ t) i % size_of t ≡ position_in t (drop (length s) i)
right_place s t i w =
    let p = parted s t i w in
    ap (λ n. n % size_of t) p.place ∙ mod-mul-add (position_in s (take (length s) i)) (size_of t) (position_in t (drop (length s) i)) (position_in-lt t (drop (length s) i) p.right)

-- a function of each element with each, by places
pub by_crossing : (g : Dyadic) (a b : Arr) → length (cells_of a.items) ≡ size_of a.shape → length (cells_of b.items) ≡ size_of b.shape →
    all_ok (paired g a b) (indices (a.shape ++ b.shape)) ≡ all_ok (crossed_cells g a.items b.items) (range_with_len 0 (length (cells_of a.items) * length (cells_of b.items)))
by_crossing g a b full_a full_b =
    all_ok-same (λ i. is_within (a.shape ++ b.shape) i ≡ true) (paired g a b) (λ i. crossed_cells g a.items b.items (position_in (a.shape ++ b.shape) i))
    (λ i w. ap (λ (p : ℕ). cells_met g a.items b.items p (position_in b.shape (drop (length a.shape) i))) (sym (left_place a.shape b.shape i w))
    ∙ ap (cells_met g a.items b.items (position_in (a.shape ++ b.shape) i / size_of b.shape)) (sym (right_place a.shape b.shape i w))
    ∙ ap (λ (n : ℕ). cells_met g a.items b.items (position_in (a.shape ++ b.shape) i / n) (position_in (a.shape ++ b.shape) i % n)) (sym full_b))
    (indices (a.shape ++ b.shape)) (all_within (a.shape ++ b.shape))
    ∙ by_places (a.shape ++ b.shape) (crossed_cells g a.items b.items)
    ∙ ap (λ (n : ℕ). all_ok (crossed_cells g a.items b.items) (range_with_len 0 n)) (size_of-append a.shape b.shape ∙ ap (λ n. n * size_of b.shape) (sym full_a) ∙ ap (λ n. length (cells_of a.items) * n) (sym full_b))
