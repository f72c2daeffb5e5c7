-- Elements that are taken anew, and put back.
use Rattle.std.proofs.Common.{◌≡◌, ℕ, pos, true, List, map, length, get_or, refl, ap, sym, ◌∙◌}
use Rattle.std.specs.List.{range_with_len}
use Rattle.std.proofs.lemmas.List.{length-map}
use Rattle.std.proofs.lemmas.List.FromFn.{fill_by_all}
use Rattle.apl_arrays.specs.declared.cell.Cell.TheVariants.{Num, Char}
use Rattle.apl_arrays.specs.Index.{indices, is_within, position_in, size_of}
use Rattle.apl_arrays.specs.Cells.{Arr, Items, Numbers, Characters, cells_of}
use Rattle.apl_arrays.specs.Views.{picked, selected}
use Rattle.apl_arrays.proofs.AtPlace.{at_place}
use Rattle.apl_arrays.proofs.InOrder.{map_same}
use Rattle.apl_arrays.proofs.Order.{all_within, map_by_places}

-- what has at each index list the element there, is the elements
pub listed : {A : Type 0} (f : List ℕ → A) (xs : List A) (d : A) (s : List ℕ) → length xs ≡ size_of s → ((i : List ℕ) → is_within s i ≡ true → f i ≡ get_or xs (position_in s i) d) → map f (indices s) ≡ xs
listed f xs d s e h =
    map_same (λ i. is_within s i ≡ true) f (λ i. get_or xs (position_in s i) d) h (indices s) (all_within s)
    ∙ map_by_places s (λ p. get_or xs p d)
    ∙ ap (λ n. map (λ p. get_or xs p d) (range_with_len 0 n)) (sym e)
    ∙ sym (fill_by_all (λ p. get_or xs p d) xs (length xs) d refl (λ k l. refl))

-- the elements at g(h(i)), where that is i
put_back : {A : Type 0} (xs : List A) (d : A) (s t : List ℕ) (g h : List ℕ → List ℕ) → length xs ≡ size_of s → ((i : List ℕ) → is_within s i ≡ true → is_within t (h i) ≡ true) → ((i : List ℕ) → is_within s i ≡ true → g (h i) ≡ i) →
    map (λ i. get_or (map (λ j. get_or xs (position_in s (g j)) d) (indices t)) (position_in t (h i)) d) (indices s) ≡ xs
put_back xs d s t g h e within back =
    listed (λ i. get_or (map (λ j. get_or xs (position_in s (g j)) d) (indices t)) (position_in t (h i)) d) xs d s e
    (λ i w. at_place (λ j. get_or xs (position_in s (g j)) d) d t (h i) (within i w) ∙ ap (λ j. get_or xs (position_in s j) d) (back i w))

picked-back : (items : Items) (s t : List ℕ) (g h : List ℕ → List ℕ) → length (cells_of items) ≡ size_of s → ((i : List ℕ) → is_within s i ≡ true → is_within t (h i) ≡ true) → ((i : List ℕ) → is_within s i ≡ true → g (h i) ≡ i) →
    picked (picked items (λ i. position_in s (g i)) (indices t)) (λ i. position_in t (h i)) (indices s) ≡ items
picked-back (Numbers zs) s t g h e within back = ap Numbers (put_back zs (pos 0) s t g h (sym (length-map zs Num) ∙ e) within back)
picked-back (Characters cs) s t g h e within back = ap Characters (put_back cs 0 s t g h (sym (length-map cs Char) ∙ e) within back)

-- what is taken at g(h(i)), where that is i, is the array
pub selected-back : (a : Arr) (t : List ℕ) (g h : List ℕ → List ℕ) → length (cells_of a.items) ≡ size_of a.shape → ((i : List ℕ) → is_within a.shape i ≡ true → is_within t (h i) ≡ true) → ((i : List ℕ) → is_within a.shape i ≡ true → g (h i) ≡ i) →
    selected (selected a t g) a.shape h ≡ a
selected-back a t g h e within back = ap (λ (items : Items). record { shape = a.shape; items = items }) (picked-back a.items a.shape t g h e within back)
