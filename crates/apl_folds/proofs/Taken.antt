-- An axis taken out.
use Rattle.std.proofs.Common.{suc, zero, ◌≡◌, ℕ, ◌+◌, ◌*◌, ◌<◌, true, nat_lt, List, [], ◌∷◌, length, get_or, refl, ap, sym, ◌∙◌, arith}
use Rattle.std.specs.List.{remove}
use Rattle.apl_arrays.specs.declared.axis.Axis.{Axis}
use Rattle.apl_arrays.specs.Index.{is_within}
use Rattle.apl_arrays.specs.Strides.{lengths, step_at, place_at, reach_of}
use Rattle.apl_arrays.specs.Axes.{without, inserted}
use Rattle.apl_arrays.proofs.Places.{both, within_head}
use Rattle.apl_arrays.proofs.Order.{within_cons}
use Rattle.apl_arrays.proofs.Steps.{place_at-add, reach_of-add}

pub remove-without : {A : Type 0} (xs : List A) (k : ℕ) → k < length xs → remove xs k ≡ without k xs
remove-without [] k h = absurd (omega arith)
remove-without (x ∷ xs) zero h = refl
remove-without {A = A} (x ∷ xs) (suc k) h = ap (λ (l : List A). x ∷ l) (remove-without xs k (omega arith))

pub lengths-without : (xs : List Axis) (k : ℕ) → lengths (without k xs) ≡ without k (lengths xs)
lengths-without [] k = refl
lengths-without (a ∷ xs) zero = refl
lengths-without (a ∷ xs) (suc k) = ap (λ (l : List ℕ). a.length ∷ l) (lengths-without xs k)

-- an index list with the index of the axis that was taken out
pub place_at-inserted : (xs : List Axis) (d : Axis) (k p i : ℕ) (r : List ℕ) → k < length xs → is_within (lengths (without k xs)) r ≡ true →
    place_at p xs (inserted k i r) ≡ place_at p (without k xs) r + step_at (get_or xs k d) i
place_at-inserted [] d k p i r h w = absurd (omega arith)
place_at-inserted (a ∷ xs) d zero p i r h w = place_at-add p (step_at a i) xs r
place_at-inserted (a ∷ xs) d (suc k) p i [] h w = absurd (cc)
place_at-inserted (a ∷ xs) d (suc k) p i (j ∷ r) h w = place_at-inserted xs d k (p + step_at a j) i r (omega arith) (both (nat_lt j a.length) (is_within (lengths (without k xs)) r) w).1

pub within-inserted : (xs : List Axis) (d : Axis) (k i : ℕ) (r : List ℕ) → k < length xs → i < (get_or xs k d).length → is_within (lengths (without k xs)) r ≡ true → is_within (lengths xs) (inserted k i r) ≡ true
within-inserted [] d k i r h l w = absurd (omega arith)
within-inserted (a ∷ xs) d zero i r h l w = within_cons a.length i (lengths xs) r l w
within-inserted (a ∷ xs) d (suc k) i [] h l w = absurd (cc)
within-inserted (a ∷ xs) d (suc k) i (j ∷ r) h l w =
    within_cons a.length j (lengths xs) (inserted k i r) (within_head a.length j (lengths (without k xs)) r w)
    (within-inserted xs d k i r (omega arith) l (both (nat_lt j a.length) (is_within (lengths (without k xs)) r) w).1)

-- an index list without the index of an axis
pub within-without : (ns is : List ℕ) (k : ℕ) → is_within ns is ≡ true → is_within (without k ns) (without k is) ≡ true
within-without [] [] k w = refl
within-without [] (i ∷ is) k w = absurd (cc)
within-without (n ∷ ns) [] k w = absurd (cc)
within-without (n ∷ ns) (i ∷ is) zero w = (both (nat_lt i n) (is_within ns is) w).1
within-without (n ∷ ns) (i ∷ is) (suc k) w = within_cons n i (without k ns) (without k is) (within_head n i ns is w) (within-without ns is k (both (nat_lt i n) (is_within ns is) w).1)

-- its index there
pub index_within : (ns is : List ℕ) (k : ℕ) → k < length ns → is_within ns is ≡ true → get_or is k 0 < get_or ns k 0
index_within [] is k h w = absurd (omega arith)
index_within (n ∷ ns) [] k h w = absurd (cc)
index_within (n ∷ ns) (i ∷ is) zero h w = within_head n i ns is w
index_within (n ∷ ns) (i ∷ is) (suc k) h w = index_within ns is k (omega arith) (both (nat_lt i n) (is_within ns is) w).1

pub reach-without : (xs : List Axis) (d : Axis) (k p : ℕ) → k < length xs → reach_of p (without k xs) + ((get_or xs k d).up + (get_or xs k d).down) * ((get_or xs k d).length + 1) ≡ reach_of p xs
reach-without [] d k p h = absurd (omega arith)
reach-without (a ∷ xs) d zero p h = sym (reach_of-add p ((a.up + a.down) * (a.length + 1)) xs)
reach-without (a ∷ xs) d (suc k) p h = reach-without xs d k (p + (a.up + a.down) * (a.length + 1)) (omega arith)

pub parted : {A : Type 0} (xs ys zs ws : List A) (k : ℕ) → k < length xs → ys ≡ xs → zs ≡ remove ys k → ws ≡ zs → ws ≡ without k xs
parted {A = A} xs ys zs ws k h e f g = g ∙ f ∙ ap (λ (l : List A). remove l k) e ∙ remove-without xs k h
