-- The equality of arrays.
use Rattle.std.specs.Prelude.{◌≡◌, ℕ, Bool, true, false, ◌&&◌, nat_eq, List, refl}
use Rattle.std.proofs.Common.{ap}
use Rattle.std.specs.Ordering.{int_eq}
use Rattle.std.specs.Cmp.{IsEquivalence, first_so, second_so, unsigned_Decides, signed_Decides, and_equiv, on_equiv, nat_eq_equiv, int_eq_equiv}
use Rattle.std.specs.Cmp.Lexicographic.{pointwise, pointwise_decides, lists_equiv}
use Rattle.std.specs.Hash as fed
use Rattle.apl_arrays.specs.Cells.{Arr, Items, Numbers, Characters}
use Rattle.apl_arrays.specs.declared.numbers.NumberSlice.{NumberSlice}
use Rattle.apl_arrays.specs.Numbers.{values}

-- what a hasher is fed of the elements
abbrev pub items_input : Items → List (List ℕ)
items_input (Numbers xs) = fed.slice fed.i64 xs
items_input (Characters xs) = fed.slice fed.char xs

-- elements of one type, each as its counterpart; so no numbers are no characters
abbrev pub items_eq : Items → Items → Bool
items_eq (Numbers xs) (Numbers ys) = pointwise int_eq xs ys
items_eq (Characters xs) (Characters ys) = pointwise nat_eq xs ys
items_eq xs ys = false

-- numbers, each equal to its counterpart, whatever types store them
abbrev pub slice_eq : NumberSlice → NumberSlice → Bool
slice_eq xs ys = pointwise int_eq (values xs) (values ys)

pub slice_equiv : IsEquivalence slice_eq
slice_equiv = on_equiv values (lists_equiv int_eq_equiv)

-- one shape, and equal elements
abbrev pub array_eq : Arr → Arr → Bool
array_eq a b = pointwise nat_eq a.shape b.shape && items_eq a.items b.items

items_refl : (xs : Items) → items_eq xs xs ≡ true
items_refl (Numbers xs) = (lists_equiv int_eq_equiv).refl xs
items_refl (Characters xs) = (lists_equiv nat_eq_equiv).refl xs

items_symm : (xs ys : Items) → items_eq xs ys ≡ items_eq ys xs
items_symm (Numbers xs) (Numbers ys) = (lists_equiv int_eq_equiv).symm xs ys
items_symm (Numbers xs) (Characters ys) = refl
items_symm (Characters xs) (Numbers ys) = refl
items_symm (Characters xs) (Characters ys) = (lists_equiv nat_eq_equiv).symm xs ys

items_congr : (xs ys zs : Items) → items_eq xs ys ≡ true → items_eq xs zs ≡ items_eq ys zs
items_congr (Numbers xs) (Numbers ys) (Numbers zs) h = (lists_equiv int_eq_equiv).congr xs ys zs h
items_congr (Numbers xs) (Numbers ys) (Characters zs) h = refl
items_congr (Numbers xs) (Characters ys) zs h = cc
items_congr (Characters xs) (Numbers ys) zs h = cc
items_congr (Characters xs) (Characters ys) (Numbers zs) h = refl
items_congr (Characters xs) (Characters ys) (Characters zs) h = (lists_equiv nat_eq_equiv).congr xs ys zs h

items_equiv : IsEquivalence items_eq
items_equiv = record { refl = items_refl; symm = items_symm; congr = items_congr }

pub array_equiv : IsEquivalence array_eq
array_equiv = and_equiv (on_equiv (λ (a : Arr). a.shape) (lists_equiv nat_eq_equiv)) (on_equiv (λ (a : Arr). a.items) items_equiv)

-- equal elements are the same
items_same : (xs ys : Items) → items_eq xs ys ≡ true → xs ≡ ys
items_same (Numbers xs) (Numbers ys) h = ap Numbers ((pointwise_decides signed_Decides xs ys).0 h)
items_same (Numbers xs) (Characters ys) h = cc
items_same (Characters xs) (Numbers ys) h = cc
items_same (Characters xs) (Characters ys) h = ap Characters ((pointwise_decides unsigned_Decides xs ys).0 h)

-- equal arrays are the same
pub array_same : (a b : Arr) → array_eq a b ≡ true → a ≡ b
array_same a b h =
    let shapes = pointwise nat_eq a.shape b.shape in
    let s : a.shape ≡ b.shape = (pointwise_decides unsigned_Decides a.shape b.shape).0 (first_so shapes (items_eq a.items b.items) h) in
    let e : a.items ≡ b.items = items_same a.items b.items (second_so shapes (items_eq a.items b.items) h) in
    λ i. record { shape = s i; items = e i }
