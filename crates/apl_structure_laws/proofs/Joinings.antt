-- What catenating gives of two arrays of one rank and one type.
use Rattle.std.proofs.Common.{◌≡◌, ℕ, pos, ◌+◌, ◌<◌, ◌==◌, max, Bool, true, false, cond, List, [], ◌∷◌, map, length, get_or, Option, Result, refl, ap, sym, ◌∙◌, arith}
use Rattle.std.proofs.lemmas.Bool.{eq-eqb, ne_eqb}
use Rattle.apl_faults.specs.declared.fault.Fault.{Fault}
use Rattle.apl_faults.specs.declared.fault.Fault.TheVariants.{Rank, Length, Limit}
use Rattle.apl_arrays.specs.declared.axis_choice.Along.{Along}
use Rattle.apl_arrays.specs.Along.{axis_along}
use Rattle.apl_arrays.specs.Axes.{inserted, without}
use Rattle.apl_arrays.specs.Cells.{Arr, Items, Numbers, Characters}
use Rattle.apl_arrays.specs.Checks.{demand, is_limited, same}
use Rattle.apl_arrays.specs.Index.{indices, position_in}
use Rattle.apl_arrays.specs.Kinds.{are_numbers}
use Rattle.apl_arrays.specs.Results.{and_then, ok_map}
use Rattle.apl_reshape.specs.Catenate.{beside, catenated, joined_at, joined_of, joined_on, joined_shape, joining_axis}
use Rattle.apl_structure_laws.specs.Catenations.{GoesAlong}

-- the elements of both; of two types none
abbrev pub items_of_both : ℕ → List ℕ → List ℕ → Items → Items → List (List ℕ) → Items
items_of_both k s t (Numbers xs) (Numbers ys) is = Numbers (map (joined_at k (get_or s k 0) (position_in s) (position_in t) (pos 0) xs ys) is)
items_of_both k s t (Numbers xs) (Characters ys) is = Numbers []
items_of_both k s t (Characters xs) (Numbers ys) is = Numbers []
items_of_both k s t (Characters xs) (Characters ys) is = Characters (map (joined_at k (get_or s k 0) (position_in s) (position_in t) 0 xs ys) is)

abbrev pub both : ℕ → Arr → Arr → Arr
both k a b = record { shape = joined_shape k a.shape b.shape; items = items_of_both k a.shape b.shape a.items b.items (indices (joined_shape k a.shape b.shape)) }

abbrev pub if_limited : ℕ → Arr → Arr → Result Arr Fault
if_limited k a b = ok_map (λ u. both k a b) (demand (is_limited (joined_shape k a.shape b.shape)) Limit)

of_parts : (k : ℕ) (s t : List ℕ) (xs ys : Items) → 0 < length s → 0 < length t → are_numbers xs ≡ are_numbers ys →
    joined_of k s t (record { shape = s; items = xs }) (record { shape = t; items = ys }) ≡ if_limited k (record { shape = s; items = xs }) (record { shape = t; items = ys })
of_parts k [] t xs ys h g e = absurd (omega arith)
of_parts k (m ∷ s) [] xs ys h g e = absurd (omega arith)
of_parts k (m ∷ s) (n ∷ t) (Numbers xs) (Characters ys) h g e = absurd (cc)
of_parts k (m ∷ s) (n ∷ t) (Characters xs) (Numbers ys) h g e = absurd (cc)
of_parts k (m ∷ s) (n ∷ t) (Numbers xs) (Numbers ys) h g e = by (is_limited (joined_shape k (m ∷ s) (n ∷ t)))
  where
    by : (d : Bool) → ok_map (λ shape. record { shape = shape; items = items_of_both k (m ∷ s) (n ∷ t) (Numbers xs) (Numbers ys) (indices shape) }) (ok_map (λ u. joined_shape k (m ∷ s) (n ∷ t)) (demand d Limit))
        ≡ ok_map (λ u. both k (record { shape = m ∷ s; items = Numbers xs }) (record { shape = n ∷ t; items = Numbers ys })) (demand d Limit)
    by true = refl
    by false = refl
of_parts k (m ∷ s) (n ∷ t) (Characters xs) (Characters ys) h g e = by (is_limited (joined_shape k (m ∷ s) (n ∷ t)))
  where
    by : (d : Bool) → ok_map (λ shape. record { shape = shape; items = items_of_both k (m ∷ s) (n ∷ t) (Characters xs) (Characters ys) (indices shape) }) (ok_map (λ u. joined_shape k (m ∷ s) (n ∷ t)) (demand d Limit))
        ≡ ok_map (λ u. both k (record { shape = m ∷ s; items = Characters xs }) (record { shape = n ∷ t; items = Characters ys })) (demand d Limit)
    by true = refl
    by false = refl

beside-stays : (k : ℕ) (s t : List ℕ) → 0 < length s → length s ≡ length t → beside k s t ≡ s
beside-stays k [] t h e = absurd (omega arith)
beside-stays k (m ∷ s) t h e = ap (λ (d : Bool). cond d (inserted k 1 (m ∷ s)) (m ∷ s)) (ne_eqb (length (m ∷ s) + 1) (length t) (λ f. omega arith))

-- of as many axes, along one of them
pub joined-alike : (k : ℕ) (a b : Arr) → 0 < length a.shape → length a.shape ≡ length b.shape → are_numbers a.items ≡ are_numbers b.items →
    joined_on k a b ≡ and_then (demand (same (without k a.shape) (without k b.shape)) Length) (λ ok. if_limited k a b)
joined-alike k a b h e f =
    ap (λ (s : List ℕ). and_then (demand (length s == length (beside k b.shape a.shape)) Rank) (λ ok. and_then (demand (same (without k s) (without k (beside k b.shape a.shape))) Length) (λ ok. joined_of k s (beside k b.shape a.shape) a b))) (beside-stays k a.shape b.shape h e)
    ∙ ap (λ (t : List ℕ). and_then (demand (length a.shape == length t) Rank) (λ ok. and_then (demand (same (without k a.shape) (without k t)) Length) (λ ok. joined_of k a.shape t a b))) (beside-stays k b.shape a.shape (omega arith) (sym e))
    ∙ ap (λ (d : Bool). and_then (demand d Rank) (λ ok. and_then (demand (same (without k a.shape) (without k b.shape)) Length) (λ ok. joined_of k a.shape b.shape a b))) (eq-eqb (length a.shape) (length b.shape) e)
    ∙ ap (λ (r : Result Arr Fault). and_then (demand (same (without k a.shape) (without k b.shape)) Length) (λ ok. r)) (of_parts k a.shape b.shape a.items b.items h (omega arith) f)

pub catenated-alike : (along : Along) (origin k : ℕ) (a b : Arr) → GoesAlong along origin k a → 0 < length a.shape → length a.shape ≡ length b.shape → are_numbers a.items ≡ are_numbers b.items →
    catenated along origin a b ≡ and_then (demand (same (without k a.shape) (without k b.shape)) Length) (λ ok. if_limited k a b)
catenated-alike along origin k a b g h e f =
    let rank : max (length a.shape) (length b.shape) ≡ length a.shape = omega arith in
    ap (λ (n : ℕ). and_then (axis_along along n origin) (λ named. joined_on (joining_axis named) a b)) rank
    ∙ ap (λ (r : Result (Option ℕ) Fault). and_then r (λ named. joined_on (joining_axis named) a b)) g
    ∙ joined-alike k a b h e f
