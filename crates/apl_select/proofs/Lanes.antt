-- Numbers of a type that stores them.
use Rattle.std.proofs.Common.{◌≡◌, ℕ, ◌+◌, ◌<◌, ℤ, pos, List, map, length, take, drop, get_or, FitsSigned, to_z, of_z, w64, ap, sym, ◌∙◌}
use Rattle.std.specs.Prelude.{count_by, cond}
use Rattle.std.proofs.lemmas.Int.{to_z-of_z}
use Rattle.std.proofs.lemmas.List.{get_or-map, length-map, take-map, drop-map}
use Rattle.std.proofs.lemmas.List.Sums.{sum_by-take-drop}
use Rattle.apl_select.specs.Compress.{is_one}

-- as many numbers as items
pub length-numbers : {A : Type 0} (value : A → ℤ) (numbers : List A → List ℤ) → ((xs : List A) → numbers xs ≡ map value xs) → (xs : List A) → length (numbers xs) ≡ length xs
length-numbers value numbers each xs = ap length (each xs) ∙ length-map xs value

-- the number at a place, as a call is told it
pub number_told : {A : Type 0} (value : A → ℤ) (numbers : List A → List ℤ) → ((xs : List A) → numbers xs ≡ map value xs) →
    (xs : List A) (k : ℕ) (x : A) (z : ℤ) → FitsSigned w64 z → k < length xs → x ≡ get_or xs k x → z ≡ value x → to_z w64 (of_z w64 z) ≡ get_or (numbers xs) k (pos 0)
number_told value numbers each xs k x z fits within e f =
    to_z-of_z w64 z fits ∙ f ∙ ap value e ∙ sym (get_or-map value xs k x (pos 0) within) ∙ ap (λ zs. get_or zs k (pos 0)) (sym (each xs))

-- the ones of two parts
pub ones_of_parts : {A : Type 0} (value : A → ℤ) (numbers : List A → List ℤ) → ((xs : List A) → numbers xs ≡ map value xs) →
    (xs front back : List A) (n : ℕ) → front ≡ take n xs → back ≡ drop n xs → count_by is_one (numbers front) + count_by is_one (numbers back) ≡ count_by is_one (numbers xs)
ones_of_parts value numbers each xs front back n e f =
    ap (λ zs. count_by is_one zs + count_by is_one (numbers back)) (each front ∙ ap (map value) e ∙ sym (take-map value n xs))
    ∙ ap (λ zs. count_by is_one (take n (map value xs)) + count_by is_one zs) (each back ∙ ap (map value) f ∙ sym (drop-map value n xs))
    ∙ sum_by-take-drop (λ z. cond (is_one z) 1 0) (map value xs) n
    ∙ ap (count_by is_one) (sym (each xs))
