-- The product of bases is their reduction, and what it leaves of each number its residue.
use Rattle.std.proofs.Common.{◌≡◌, ℕ, ℤ, pos, ◌*ℤ◌, ◌<ℤ◌, ◌+◌, ◌*◌, ◌^◌, ◌<◌, ◌≤◌, Bool, true, false, cond, nat_lt, List, [], ◌∷◌, map, length, get_or, Option, Some, None, Result, Ok, refl, ap, sym, ◌∙◌, subst, arith}
use Rattle.std.specs.Prelude.{slice_get}
use Rattle.std.specs.Option.{option_map}
use Rattle.std.specs.List.{AllByRecursion}
use Rattle.std.proofs.lemmas.Bool.{eqb-true, lt-ltb, ltb-true, ne_eqb}
use Rattle.std.proofs.lemmas.Int.{ints}
use Rattle.std.proofs.lemmas.List.{length-map}
use Rattle.std.proofs.lemmas.List.Elements.{recursion_from_All}
use Rattle.std.proofs.lemmas.List.FromFn.{fill_by_all}
use Rattle.std.proofs.lemmas.Option.{slice_get-get_or, slice_get-map}
use Rattle.std.proofs.Math.Nat.{mul-le-mul_right}
use Rattle.apl_faults.specs.declared.fault.Fault.{Fault}
use Rattle.apl_arrays.specs.declared.axis_choice.Along.TheVariants.{Last}
use Rattle.apl_arrays.specs.declared.cell.Cell.{Cell}
use Rattle.apl_arrays.specs.declared.cell.Cell.TheVariants.{Num}
use Rattle.apl_arrays.specs.Cells.{Arr, Items, Numbers, Characters, IsArray}
use Rattle.apl_arrays.specs.Checks.{is_single, numbers_of}
use Rattle.apl_arrays.specs.Index.{indices, is_within, position_in, size_of}
use Rattle.apl_arrays.specs.Results.{and_then, ok_map}
use Rattle.apl_arrays.proofs.Order.{all_within}
use Rattle.apl_arrays.proofs.Places.{position_in-lt}
use Rattle.apl_folds.specs.Folds.{applied, fold, folded, items_along, number_in, reduced_along, reduction}
use Rattle.apl_scalar.specs.declared.function.Dyadic.TheVariants.{Residue, Times}
use Rattle.apl_scalar.specs.Extension.{dyadic, dyadic_at, extended, numbers_in, operand_at, values_in}
use Rattle.apl_scalar.specs.Functions.{is_in_range, residue}
use Rattle.apl_search.proofs.Digits.{numbers_length}
use Rattle.apl_structure_laws.specs.Digits.{AreBases, IsTheirResidue, left_of_each, product}
use Rattle.apl_structure_laws.proofs.Digits.{all_ok-same, in_range-below, naturals, naturals-are, residues-listed, times, vector_shape}

-- ---- the product

fold-times : (n : ℕ) (ns : List ℕ) → AllByRecursion (λ n. 0 < n) (n ∷ ns) → times (n ∷ ns) < 2 ^ 63 → fold Times (map Num (map pos (n ∷ ns))) ≡ Ok (Num (pos (times (n ∷ ns))))
fold-times n [] h l = ap (λ m. Ok (Num (pos m))) (one n)
  where
    one : (n : ℕ) → n ≡ n * 1
    one n = omega arith
fold-times n (m ∷ ns) h l =
    ap (λ (r : Result Cell Fault). and_then r (λ e. applied Times (Num (pos n)) e)) (fold-times m ns h.1 (less (times (m ∷ ns)) n h.0 l))
    ∙ ap (ok_map Num) (in_range-below (n * times (m ∷ ns)) l)
  where
    less : (t n : ℕ) → 0 < n → n * t < 2 ^ 63 → t < 2 ^ 63
    less t n h l = let m : 1 * t ≤ n * t = mul-le-mul_right t h in omega arith

-- of bases, of which there are some
fold-product : (w : ℤ) (ws : List ℤ) → AllByRecursion (λ w. pos 0 <ℤ w) (w ∷ ws) → is_in_range (product (w ∷ ws)) ≡ true → fold Times (map Num (w ∷ ws)) ≡ Ok (Num (product (w ∷ ws)))
fold-product w ws h fits = by (naturals (w ∷ ws)) (naturals-are (w ∷ ws) h).0 (naturals-are (w ∷ ws) h).1 (naturals-are (w ∷ ws) h).2
  where
    by : (ns : List ℕ) → map pos ns ≡ w ∷ ws → AllByRecursion (λ n. 0 < n) ns → product (w ∷ ws) ≡ pos (times ns) → fold Times (map Num (w ∷ ws)) ≡ Ok (Num (product (w ∷ ws)))
    by [] e a p = absurd (cc)
    by (n ∷ ns) e a p =
        let inside : is_in_range (pos (times (n ∷ ns))) ≡ true = subst (λ z. is_in_range z ≡ true) p fits in
        ap (λ (l : List ℤ). fold Times (map Num l)) (sym e) ∙ fold-times n ns a (ltb-true (times (n ∷ ns)) (2 ^ 63) inside) ∙ ap (λ z. Ok (Num z)) (sym p)

-- the vector of numbers
abbrev vector_of : List ℤ → Arr
vector_of ws = record { shape = length ws ∷ []; items = Numbers ws }

abbrev number_of : ℤ → Arr
number_of z = record { shape = []; items = Numbers (z ∷ []) }

along-vector : (ws : List ℤ) → items_along 0 (vector_of ws) [] ≡ map Num ws
along-vector ws =
    sym (fill_by_all (λ k. get_or (map Num ws) (k * 1 + 0) (Num (pos 0))) (map Num ws) (length ws) (Num (pos 0)) (length-map ws Num)
    (λ k h. ap (λ q. get_or (map Num ws) q (Num (pos 0))) (there k)))
  where
    there : (k : ℕ) → k ≡ k * 1 + 0
    there k = omega arith

reduced-vector : (ws : List ℤ) → AllByRecursion (λ w. pos 0 <ℤ w) ws → is_in_range (product ws) ≡ true → reduced_along Times 0 (vector_of ws) ≡ Ok (number_of (product ws))
reduced-vector [] h fits = refl
reduced-vector (w ∷ []) h fits = ap (λ z. Ok (number_of z)) (once w)
  where
    once : (w : ℤ) → w ≡ w *ℤ pos 1
    once w = omega (arith, ints)
reduced-vector (v ∷ w ∷ ws) h fits =
    ap (λ (b : Bool). cond b (Ok (record { shape = []; items = Numbers (v ∷ w ∷ ws) })) (ok_map (numbers_in []) (and_then (folded Times (items_along 0 (vector_of (v ∷ w ∷ ws)) [])) (λ y. Ok (y ∷ []))))) (ne_eqb (length (v ∷ w ∷ ws)) 1 (λ e. omega arith))
    ∙ ap (λ (l : List Cell). ok_map (numbers_in []) (and_then (folded Times l) (λ y. Ok (y ∷ [])))) (along-vector (v ∷ w ∷ ws))
    ∙ ap (λ (r : Result Cell Fault). ok_map (numbers_in []) (and_then (ok_map number_in r) (λ y. Ok (y ∷ [])))) (fold-product v (w ∷ ws) h fits)

reduced-items : (items : Items) (ws : List ℤ) → numbers_of items ≡ Ok ws → AllByRecursion (λ w. pos 0 <ℤ w) ws → is_in_range (product ws) ≡ true → reduced_along Times 0 (record { shape = length ws ∷ []; items = items }) ≡ Ok (number_of (product ws))
reduced-items (Numbers zs) ws e h fits =
    let same : zs ≡ ws = cc in
    ap (λ (l : List ℤ). reduced_along Times 0 (record { shape = length ws ∷ []; items = Numbers l })) same ∙ reduced-vector ws h fits
reduced-items (Characters []) ws e h fits =
    let same : [] ≡ ws = cc in
    subst (λ (l : List ℤ). reduced_along Times 0 (record { shape = length l ∷ []; items = Characters [] }) ≡ Ok (number_of (product l))) same refl
reduced-items (Characters (c ∷ cs)) ws e h fits = absurd (cc)

reduction-product : (a : Arr) (ws : List ℤ) (origin : ℕ) → AreBases a ws → reduction Times Last a origin ≡ Ok (number_of (product ws))
reduction-product a ws origin h =
    ap (λ (s : List ℕ). reduction Times Last (record { shape = s; items = a.items }) origin) (vector_shape a.shape (length ws) h.vector (numbers_length a.items ws h.bases_are ∙ h.array.full))
    ∙ reduced-items a.items ws h.bases_are (recursion_from_All (λ w. pos 0 <ℤ w) ws h.positive) h.fits

-- ---- the residues

abbrev chosen : Bool → List ℕ → Result (List ℕ) Fault
chosen single t = cond single (Ok (cond (nat_lt 0 (length t)) t [])) (Ok t)

chosen-all : (single : Bool) (t : List ℕ) → chosen single t ≡ Ok t
chosen-all true [] = refl
chosen-all true (n ∷ t) = ap (λ (d : Bool). Ok (cond d (n ∷ t) [])) (lt-ltb 0 (length (n ∷ t)) (omega arith))
chosen-all false t = refl

extended-all : (t : List ℕ) → extended [] t ≡ Ok t
extended-all t = chosen-all (is_single t) t

-- the number at an index list
number-there : (items : Items) (rs : List ℤ) (s i : List ℕ) → numbers_of items ≡ Ok rs → length rs ≡ size_of s → is_within s i ≡ true →
    operand_at (record { shape = s; items = items }) i ≡ Some (Num (get_or rs (position_in s i) (pos 0)))
number-there (Numbers zs) rs s i e full w =
    let same : zs ≡ rs = cc in
    ap (λ (l : List ℤ). operand_at (record { shape = s; items = Numbers l }) i) same ∙ by (is_single s) refl
    ∙ slice_get-map Num rs (position_in s i) ∙ ap (option_map Num) (slice_get-get_or rs (position_in s i) (pos 0) (omega (arith, position_in-lt s i w)))
  where
    by : (b : Bool) → is_single s ≡ b → cond b (slice_get (map Num rs) 0) (cond (is_within s i) (slice_get (map Num rs) (position_in s i)) None) ≡ slice_get (map Num rs) (position_in s i)
    by true f =
        let first : position_in s i ≡ 0 = omega (arith, eqb-true (size_of s) 1 f, position_in-lt s i w) in
        ap (slice_get (map Num rs)) (sym first)
    by false f = ap (λ (b : Bool). cond b (slice_get (map Num rs) (position_in s i)) None) w
number-there (Characters []) rs s i e full w =
    let same : [] ≡ rs = cc in
    absurd (omega (arith, ap (λ (l : List ℤ). length l) same, position_in-lt s i w))
number-there (Characters (c ∷ cs)) rs s i e full w = absurd (cc)

residues : (z : ℤ) (b : Arr) (rs : List ℤ) → IsArray b.shape b.items → numbers_of b.items ≡ Ok rs → dyadic Residue (number_of z) b ≡ Ok (left_of_each z b rs)
residues z b rs h e =
    let full : length rs ≡ size_of b.shape = numbers_length b.items rs e ∙ h.full in
    ap (λ (r : Result (List ℕ) Fault). and_then r (λ s. ok_map (numbers_in s) (values_in Residue (number_of z) b s))) (extended-all b.shape)
    ∙ ap (ok_map (numbers_in b.shape))
    (all_ok-same (λ i. is_within b.shape i ≡ true) (λ i. dyadic_at Residue (Some (Num z)) (operand_at b i)) (λ i. residue z (get_or rs (position_in b.shape i) (pos 0)))
    (λ i w. ap (λ (o : Option Cell). dyadic_at Residue (Some (Num z)) o) (number-there b.items rs b.shape i e full w)) (indices b.shape) (all_within b.shape))
    ∙ ap (λ (l : List ℤ). Ok (numbers_in b.shape l)) (residues-listed z rs b.shape full)

pub is_their_residue : IsTheirResidue
is_their_residue a b ws rs origin h g e =
    ap (λ (r : Result Arr Fault). and_then r (λ x. dyadic Residue x b)) (reduction-product a ws origin h) ∙ residues (product ws) b rs g e
