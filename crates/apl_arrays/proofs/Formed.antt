-- The array that a view shows is within the limits, and its elements are storable.
use Rattle.std.proofs.Common.{◌≡◌, ℕ, ℤ, pos, zero, suc, ◌<◌, ◌≤◌, ◌&&◌, Bool, true, false, List, [], ◌∷◌, map, length, get_or, cond, if◌then◌else◌, refl, ap, sym, ◌∙◌, arith, Option, None, Some}
use Rattle.std.specs.Prelude.{FitsSigned, slice_get}
use Rattle.std.specs.Option.{option_map}
use Rattle.std.specs.Int.{w64}
use Rattle.std.specs.List.{AllByRecursion, All, list_all}
use Rattle.std.proofs.lemmas.List.{length-map}
use Rattle.std.proofs.lemmas.List.Elements.{All-get_or, All-nil, All-cons}
use Rattle.std.proofs.lemmas.Option.{slice_get-get_or, slice_get-map}
use Rattle.apl_arrays.specs.declared.axis.Axis.{Axis}
use Rattle.apl_arrays.specs.declared.cell.Cell.TheVariants.{Num, Char}
use Rattle.apl_arrays.specs.Index.{size_of, indices, is_within, position_in}
use Rattle.apl_arrays.specs.Cells.{Arr, Items, Numbers, Characters, AreStorable, IsArray, cells_of, cell_at}
use Rattle.apl_arrays.specs.Strides.{lengths, place_at, seen, AllPlaced, IsView}
use Rattle.apl_arrays.specs.Views.{picked}
use Rattle.apl_arrays.proofs.Places.{both, position_in-lt}
use Rattle.apl_arrays.proofs.Order.{length-indices, all_within}
use Rattle.apl_arrays.proofs.AtPlace.{at_place}
use Rattle.apl_arrays.proofs.Moves.{shown}

all_mapped : {A B : Type 0} (P : A → Type 0) (Q : B → Type 0) (f : A → B) → ((x : A) → P x → Q (f x)) → (xs : List A) → AllByRecursion P xs → All Q (map f xs)
all_mapped P Q f h [] a = All-nil Q
all_mapped P Q f h (x ∷ xs) a = All-cons Q (f x) (map f xs) (h x a.0) (all_mapped P Q f h xs a.1)

passed : {A B : Type 0} (P : A → Type 0) (t : B → Bool) (f : A → B) → ((x : A) → P x → t (f x) ≡ true) → (xs : List A) → AllByRecursion P xs → list_all t (map f xs) ≡ true
passed P t f h [] a = refl
passed P t f h (x ∷ xs) a = ap (λ b. b && list_all t (map f xs)) (h x a.0) ∙ passed P t f h xs a.1

passes : {B : Type 0} (t : B → Bool) (xs : List B) (k : ℕ) (d : B) → k < length xs → list_all t xs ≡ true → t (get_or xs k d) ≡ true
passes t [] k d l h = absurd (omega arith)
passes t (x ∷ xs) zero d l h = (both (t x) (list_all t xs) h).0
passes t (x ∷ xs) (suc k) d l h = passes t xs k d (omega arith) (both (t x) (list_all t xs) h).1

seen_storable : (items : Items) (p : ℕ) (xs : List Axis) → AllPlaced (length (cells_of items)) p xs → AreStorable items → AreStorable (seen items p xs)
seen_storable (Numbers zs) p xs h s =
    all_mapped (λ i. is_within (lengths xs) i ≡ true) (λ z. FitsSigned w64 z) (λ i. get_or zs (place_at p xs i) (pos 0))
    (λ i w. All-get_or (λ z. FitsSigned w64 z) zs (place_at p xs i) (pos 0) (omega (arith, h i w, length-map zs Num)) s) (indices (lengths xs)) (all_within (lengths xs))
seen_storable (Characters cs) p xs h s =
    passed (λ i. is_within (lengths xs) i ≡ true) _ (λ i. get_or cs (place_at p xs i) 0)
    (λ i w. passes _ cs (place_at p xs i) 0 (omega (arith, h i w, length-map cs Char)) s) (indices (lengths xs)) (all_within (lengths xs))

pub seen_full : (items : Items) (p : ℕ) (xs : List Axis) → length (cells_of (seen items p xs)) ≡ size_of (lengths xs)
seen_full (Numbers zs) p xs = length-map (map (λ i. get_or zs (place_at p xs i) (pos 0)) (indices (lengths xs))) Num ∙ length-map (indices (lengths xs)) (λ i. get_or zs (place_at p xs i) (pos 0)) ∙ length-indices (lengths xs)
seen_full (Characters cs) p xs = length-map (map (λ i. get_or cs (place_at p xs i) 0) (indices (lengths xs))) Char ∙ length-map (indices (lengths xs)) (λ i. get_or cs (place_at p xs i) 0) ∙ length-indices (lengths xs)

pub array_shown : (items : Items) (p : ℕ) (xs : List Axis) → length (lengths xs) ≤ 8 → IsView items p xs → IsArray (lengths xs) (seen items p xs)
array_shown items p xs h v = record {
  full = seen_full items p xs;
  small = v.small;
  few_axes = h;
  storable = seen_storable items p xs v.placed v.storable;
}

-- what is picked for an index list stands at its position
pub picked_at : (items : Items) (place : List ℕ → ℕ) (s i : List ℕ) → is_within s i ≡ true → place i < length (cells_of items) →
    slice_get (cells_of (picked items place (indices s))) (position_in s i) ≡ slice_get (cells_of items) (place i)
picked_at (Numbers zs) place s i w h =
    let f : List ℕ → ℤ = λ i. get_or zs (place i) (pos 0) in
    slice_get-map Num (map f (indices s)) (position_in s i)
    ∙ ap (option_map Num) (slice_get-get_or (map f (indices s)) (position_in s i) (pos 0) (omega (arith, length-map (indices s) f, length-indices s, position_in-lt s i w)))
    ∙ ap (λ (z : ℤ). Some (Num z)) (at_place f (pos 0) s i w)
    ∙ ap (option_map Num) (sym (slice_get-get_or zs (place i) (pos 0) (omega (arith, h, length-map zs Num))))
    ∙ sym (slice_get-map Num zs (place i))
picked_at (Characters cs) place s i w h =
    let f : List ℕ → ℕ = λ i. get_or cs (place i) 0 in
    slice_get-map Char (map f (indices s)) (position_in s i)
    ∙ ap (option_map Char) (slice_get-get_or (map f (indices s)) (position_in s i) 0 (omega (arith, length-map (indices s) f, length-indices s, position_in-lt s i w)))
    ∙ ap (λ (z : ℕ). Some (Char z)) (at_place f 0 s i w)
    ∙ ap (option_map Char) (sym (slice_get-get_or cs (place i) 0 (omega (arith, h, length-map cs Char))))
    ∙ sym (slice_get-map Char cs (place i))

-- so an element of the shown array is that at the place of its index list
pub seen_at : (items : Items) (p : ℕ) (xs : List Axis) (i : List ℕ) → AllPlaced (length (cells_of items)) p xs → is_within (lengths xs) i ≡ true →
    slice_get (cells_of (seen items p xs)) (position_in (lengths xs) i) ≡ slice_get (cells_of items) (place_at p xs i)
seen_at items p xs i h w = picked_at items (place_at p xs) (lengths xs) i w (h i w)

pub shown_at : (items : Items) (p : ℕ) (xs : List Axis) (i : List ℕ) → IsView items p xs → is_within (lengths xs) i ≡ true → cell_at (shown items p xs) i ≡ slice_get (cells_of items) (place_at p xs i)
shown_at items p xs i v w =
    ap (λ (b : Bool). cond b (slice_get (cells_of (seen items p xs)) (position_in (lengths xs) i)) None) w ∙ seen_at items p xs i v.placed w

pub shown_outside : (items : Items) (p : ℕ) (xs : List Axis) (i : List ℕ) → is_within (lengths xs) i ≡ false → cell_at (shown items p xs) i ≡ None
shown_outside items p xs i w = ap (λ (b : Bool). cond b (slice_get (cells_of (seen items p xs)) (position_in (lengths xs) i)) None) w

-- what is read at the place that an index list has
pub read_at : (items : Items) (p : ℕ) (xs ys : List Axis) (i : List ℕ) (place : ℕ) (found : Option ℕ) (a : Arr) → IsView items p xs → ys ≡ xs →
    found ≡ (if is_within (lengths ys) i then Some (place_at p ys i) else None) → found ≡ Some place → shown items p xs ≡ a → slice_get (cells_of items) place ≡ cell_at a i
read_at items p xs ys i place found a v e f g h =
    there (is_within (lengths xs) i) refl (sym (ap (λ zs. (if is_within (lengths zs) i then Some (place_at p zs i) else None)) e) ∙ (sym f ∙ g)) ∙ ap (λ (a : Arr). cell_at a i) h
  where
    there : (b : Bool) → is_within (lengths xs) i ≡ b → (if b then Some (place_at p xs i) else None) ≡ Some place → slice_get (cells_of items) place ≡ cell_at (shown items p xs) i
    there true w k = let s : place_at p xs i ≡ place = cc in ap (slice_get (cells_of items)) (sym s) ∙ sym (shown_at items p xs i v w)
    there false w k = absurd (cc)
