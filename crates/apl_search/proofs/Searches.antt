-- The places and the verdicts of all items.
use Rattle.std.proofs.Common.{◌≡◌, ℕ, ℤ, pos, ◌+◌, Bool, false, List, [], ◌∷◌, map, length, replicate, refl, ap, sym, ◌∙◌}
use Rattle.std.specs.Prelude.{nat_eq}
use Rattle.std.specs.Ordering.{int_eq}
use Rattle.std.specs.List.{list_any, position_or_len}
use Rattle.std.proofs.lemmas.List.{length-map}
use Rattle.apl_arrays.specs.declared.cell.Cell.TheVariants.{Num, Char}
use Rattle.apl_arrays.specs.Cells.{Items, Numbers, Characters, cells_of}
use Rattle.apl_arrays.proofs.Order.{map_map}
use Rattle.apl_scalar.specs.Functions.{number_of}
use Rattle.apl_search.specs.Found.{places_in, stand_in}
use Rattle.apl_search.proofs.Lookups.{place_of_code, code_stands}

pub all_same : {A B : Type 0} (b : B) (xs : List A) → replicate (length xs) b ≡ map (λ x. b) xs
all_same b [] = refl
all_same {B = B} b (x ∷ xs) = ap (λ (l : List B). b ∷ l) (all_same b xs)

pub numbers_places : (origin : ℕ) (xs ys : List ℤ) → map (λ y. pos (origin + position_or_len (int_eq y) xs)) ys ≡ map (λ place. pos (origin + place)) (places_in (Numbers xs) (Numbers ys))
numbers_places origin xs ys = sym (map_map (λ place. pos (origin + place)) (λ y. position_or_len (int_eq y) xs) ys)

pub no_places : {A : Type 0} (origin n : ℕ) (ys : List A) → replicate (length ys) (pos (origin + n)) ≡ map (λ place. pos (origin + place)) (map (λ y. n) ys)
no_places origin n ys = all_same (pos (origin + n)) ys ∙ sym (map_map (λ place. pos (origin + place)) (λ y. n) ys)

pub characters_places : (origin : ℕ) (cs ds : List ℕ) → map (λ y. pos (origin + position_or_len (int_eq y) (map pos cs))) (map pos ds) ≡ map (λ place. pos (origin + place)) (places_in (Characters cs) (Characters ds))
characters_places origin cs [] = refl
characters_places origin cs (d ∷ ds) =
    ap (λ (n : ℕ). pos (origin + n) ∷ map (λ y. pos (origin + position_or_len (int_eq y) (map pos cs))) (map pos ds)) (place_of_code d cs)
    ∙ ap (λ (l : List ℤ). pos (origin + position_or_len (nat_eq d) cs) ∷ l) (characters_places origin cs ds)

pub numbers_stand : (xs ys : List ℤ) → map (λ x. number_of (list_any (int_eq x) ys)) xs ≡ map number_of (stand_in (Numbers xs) (Numbers ys))
numbers_stand xs ys = sym (map_map number_of (λ x. list_any (int_eq x) ys) xs)

pub none_stands : {A : Type 0} (xs : List A) → replicate (length xs) (pos 0) ≡ map number_of (map (λ x. false) xs)
none_stands xs = all_same (pos 0) xs ∙ sym (map_map number_of (λ x. false) xs)

pub characters_stand : (cs ds : List ℕ) → map (λ x. number_of (list_any (int_eq x) (map pos ds))) (map pos cs) ≡ map number_of (stand_in (Characters cs) (Characters ds))
characters_stand [] ds = refl
characters_stand (c ∷ cs) ds =
    ap (λ (b : Bool). number_of b ∷ map (λ x. number_of (list_any (int_eq x) (map pos ds))) (map pos cs)) (code_stands c ds)
    ∙ ap (λ (l : List ℤ). number_of (list_any (nat_eq c) ds) ∷ l) (characters_stand cs ds)

pub length-places_in : (a b : Items) → length (places_in a b) ≡ length (cells_of b)
length-places_in (Numbers xs) (Numbers ys) = length-map ys (λ y. position_or_len (int_eq y) xs) ∙ sym (length-map ys Num)
length-places_in (Numbers xs) (Characters ys) = length-map ys (λ y. length xs) ∙ sym (length-map ys Char)
length-places_in (Characters xs) (Numbers ys) = length-map ys (λ y. length xs) ∙ sym (length-map ys Num)
length-places_in (Characters xs) (Characters ys) = length-map ys (λ y. position_or_len (nat_eq y) xs) ∙ sym (length-map ys Char)

pub length-stand_in : (a b : Items) → length (stand_in a b) ≡ length (cells_of a)
length-stand_in (Numbers xs) (Numbers ys) = length-map xs (λ x. list_any (int_eq x) ys) ∙ sym (length-map xs Num)
length-stand_in (Numbers xs) (Characters ys) = length-map xs (λ x. false) ∙ sym (length-map xs Num)
length-stand_in (Characters xs) (Numbers ys) = length-map xs (λ x. false) ∙ sym (length-map xs Char)
length-stand_in (Characters xs) (Characters ys) = length-map xs (λ x. list_any (nat_eq x) ys) ∙ sym (length-map xs Char)
