-- Folds from the right, a number at a time.
use Rattle.std.proofs.Common.{suc, zero, ◌≡◌, ℕ, ℤ, pos, ◌+◌, ◌-◌, ◌<◌, List, [], ◌∷◌, map, length, drop, get_or, Result, Ok, Err, refl, ap, sym, ◌∙◌, subst, arith, add-one, drop-cons}
use Rattle.apl_faults.specs.declared.fault.Fault.{Fault}
use Rattle.apl_arrays.specs.declared.cell.Cell.{Cell}
use Rattle.apl_arrays.specs.declared.cell.Cell.TheVariants.{Num}
use Rattle.apl_arrays.specs.Results.{and_then, ok_map}
use Rattle.apl_scalar.specs.declared.function.Dyadic.{Dyadic}
use Rattle.apl_scalar.specs.Functions.{dyadic_of}
use Rattle.apl_folds.specs.Folds.{applied, fold, number_in, folded}
use Rattle.apl_folds.specs.Lines.{fold_by}

rest : (xs : List ℤ) (k : ℕ) → k < length xs → drop k xs ≡ get_or xs k (pos 0) ∷ drop (k + 1) xs
rest xs k h = rw (add-one, drop-cons xs k (pos 0))

-- what is true of numbers is true of the last ones
room_drop : (room : List ℤ → Type 0) → ((x : ℤ) (xs : List ℤ) → room (x ∷ xs) → room xs) → (k : ℕ) (xs : List ℤ) → room xs → room (drop k xs)
room_drop room shorter zero xs h = h
room_drop room shorter (suc k) [] h = h
room_drop room shorter (suc k) (x ∷ xs) h = room_drop room shorter k xs (shorter x xs h)

-- the fold of the last number is that number
pub fold_last : (f : ℤ → ℤ → Result ℤ Fault) (xs : List ℤ) (k : ℕ) → k + 1 ≡ length xs → fold_by f (drop k xs) ≡ Ok (get_or xs k (pos 0))
fold_last f [] k e = absurd (omega arith)
fold_last f (x ∷ []) zero e = refl
fold_last f (x ∷ []) (suc k) e = absurd (omega arith)
fold_last f (x ∷ y ∷ ys) zero e = absurd (omega arith)
fold_last f (x ∷ y ∷ ys) (suc k) e = fold_last f (y ∷ ys) k (omega arith)

-- one number more
pub fold_next : (f : ℤ → ℤ → Result ℤ Fault) (xs : List ℤ) (k : ℕ) → k + 1 < length xs → fold_by f (drop k xs) ≡ and_then (fold_by f (drop (k + 1) xs)) (λ z. f (get_or xs k (pos 0)) z)
fold_next f xs k h =
    ap (fold_by f) (rest xs k (omega arith) ∙ ap (λ (l : List ℤ). get_or xs k (pos 0) ∷ l) (rest xs (k + 1) h))
    ∙ ap (λ (l : List ℤ). and_then (fold_by f l) (λ z. f (get_or xs k (pos 0)) z)) (sym (rest xs (k + 1) h))

pub fold_before : (f : ℤ → ℤ → Result ℤ Fault) (xs : List ℤ) (j : ℕ) (z : ℤ) → 0 < j → j < length xs → fold_by f (drop j xs) ≡ Ok z → fold_by f (drop (j - 1) xs) ≡ f (get_or xs (j - 1) (pos 0)) z
fold_before f xs j z l h e =
    fold_next f xs (j - 1) (omega arith)
    ∙ ap (λ (k : ℕ). and_then (fold_by f (drop k xs)) (λ z. f (get_or xs (j - 1) (pos 0)) z)) (back j l)
    ∙ ap (λ (r : Result ℤ Fault). and_then r (λ z. f (get_or xs (j - 1) (pos 0)) z)) e
  where
    back : (j : ℕ) → 0 < j → j - 1 + 1 ≡ j
    back j l = omega arith

-- what a step makes of numbers that are known by other terms
pub step_along : (f : ℤ → ℤ → Result ℤ Fault) (room : List ℤ → Type 0) (x y z w v : ℤ) → y ≡ x → w ≡ z → ((rest : List ℤ) → room (y ∷ rest) → fold_by f rest ≡ Ok w → fold_by f (y ∷ rest) ≡ Ok v) →
    (rest : List ℤ) → room (x ∷ rest) → fold_by f rest ≡ Ok z → fold_by f (x ∷ rest) ≡ Ok v
step_along f room x y z w v p q step =
    let P : ℤ → ℤ → Type 0 = λ a b. (rest : List ℤ) → room (a ∷ rest) → fold_by f rest ≡ Ok b → fold_by f (a ∷ rest) ≡ Ok v in
    subst (λ (a : ℤ). P a z) p (subst (λ (b : ℤ). P y b) q step)

-- the same of four
pub four_along : (f : ℤ → ℤ → Result ℤ Fault) (room : List ℤ → Type 0) (a b c d z a' b' c' d' z' v : ℤ) → a' ≡ a → b' ≡ b → c' ≡ c → d' ≡ d → z' ≡ z →
    ((rest : List ℤ) → room (a' ∷ b' ∷ c' ∷ d' ∷ rest) → fold_by f rest ≡ Ok z' → fold_by f (a' ∷ b' ∷ c' ∷ d' ∷ rest) ≡ Ok v) →
    (rest : List ℤ) → room (a ∷ b ∷ c ∷ d ∷ rest) → fold_by f rest ≡ Ok z → fold_by f (a ∷ b ∷ c ∷ d ∷ rest) ≡ Ok v
four_along f room a b c d z a' b' c' d' z' v pa pb pc pd pz step =
    let P : ℤ → ℤ → ℤ → ℤ → ℤ → Type 0 = λ a b c d z. (rest : List ℤ) → room (a ∷ b ∷ c ∷ d ∷ rest) → fold_by f rest ≡ Ok z → fold_by f (a ∷ b ∷ c ∷ d ∷ rest) ≡ Ok v in
    subst (λ (x : ℤ). P x b c d z) pa (subst (λ (x : ℤ). P a' x c d z) pb (subst (λ (x : ℤ). P a' b' x d z) pc (subst (λ (x : ℤ). P a' b' c' x z) pd (subst (λ (x : ℤ). P a' b' c' d' x) pz step))))

-- what a step makes of one number more, where there is room for it
pub one_before : (f : ℤ → ℤ → Result ℤ Fault) (room : List ℤ → Type 0) → ((x : ℤ) (xs : List ℤ) → room (x ∷ xs) → room xs) → (xs : List ℤ) (j : ℕ) (x z v : ℤ) → 0 < j → j < length xs → get_or xs (j - 1) (pos 0) ≡ x →
    room xs → fold_by f (drop j xs) ≡ Ok z → ((rest : List ℤ) → room (x ∷ rest) → fold_by f rest ≡ Ok z → fold_by f (x ∷ rest) ≡ Ok v) → fold_by f (drop (j - 1) xs) ≡ Ok v
one_before f room shorter xs j x z v l h is r e step =
    let front : drop (j - 1) xs ≡ x ∷ drop j xs =
    rest xs (j - 1) (omega arith) ∙ ap (λ (k : ℕ). get_or xs (j - 1) (pos 0) ∷ drop k xs) (back j l) ∙ ap (λ (y : ℤ). y ∷ drop j xs) is in
    ap (fold_by f) front ∙ step (drop j xs) (subst room front (room_drop room shorter (j - 1) xs r)) e
  where
    back : (j : ℕ) → 0 < j → j - 1 + 1 ≡ j
    back j l = omega arith

-- and of four
pub four_before : (f : ℤ → ℤ → Result ℤ Fault) (room : List ℤ → Type 0) → ((x : ℤ) (xs : List ℤ) → room (x ∷ xs) → room xs) → (xs : List ℤ) (k : ℕ) (a b c d z v : ℤ) → k + 4 < length xs →
    get_or xs k (pos 0) ≡ a → get_or xs (k + 1) (pos 0) ≡ b → get_or xs (k + 2) (pos 0) ≡ c → get_or xs (k + 3) (pos 0) ≡ d →
    room xs → fold_by f (drop (k + 4) xs) ≡ Ok z → ((rest : List ℤ) → room (a ∷ b ∷ c ∷ d ∷ rest) → fold_by f rest ≡ Ok z → fold_by f (a ∷ b ∷ c ∷ d ∷ rest) ≡ Ok v) → fold_by f (drop k xs) ≡ Ok v
four_before f room shorter xs k a b c d z v h ea eb ec ed r e step =
    let front : drop k xs ≡ a ∷ b ∷ c ∷ d ∷ drop (k + 4) xs =
    known xs k (k + 1) a refl (omega arith) ea
    ∙ ap (λ (l : List ℤ). a ∷ l) (known xs (k + 1) (k + 2) b (omega arith) (omega arith) eb)
    ∙ ap (λ (l : List ℤ). a ∷ b ∷ l) (known xs (k + 2) (k + 3) c (omega arith) (omega arith) ec)
    ∙ ap (λ (l : List ℤ). a ∷ b ∷ c ∷ l) (known xs (k + 3) (k + 4) d (omega arith) (omega arith) ed) in
    ap (fold_by f) front ∙ step (drop (k + 4) xs) (subst room front (room_drop room shorter k xs r)) e
  where
    known : (xs : List ℤ) (k n : ℕ) (x : ℤ) → n ≡ k + 1 → k < length xs → get_or xs k (pos 0) ≡ x → drop k xs ≡ x ∷ drop n xs
    known xs k n x e h p = rest xs k h ∙ ap (λ (y : ℤ). y ∷ drop (k + 1) xs) p ∙ ap (λ (m : ℕ). x ∷ drop m xs) (sym e)

-- a fault among the last numbers is the fault of all
pub fold_fault : (f : ℤ → ℤ → Result ℤ Fault) (xs : List ℤ) (k : ℕ) (e : Fault) → k < length xs → fold_by f (drop k xs) ≡ Err e → fold_by f xs ≡ Err e
fold_fault f xs zero e l h = h
fold_fault f [] (suc k) e l h = absurd (omega arith)
fold_fault f (x ∷ []) (suc k) e l h = absurd (omega arith)
fold_fault f (x ∷ y ∷ ys) (suc k) e l h = ap (λ (r : Result ℤ Fault). and_then r (λ z. f x z)) (fold_fault f (y ∷ ys) k e (omega arith) h)

pub fold_stops : (f : ℤ → ℤ → Result ℤ Fault) (xs : List ℤ) (j : ℕ) (z : ℤ) (e : Fault) → 0 < j → j < length xs → fold_by f (drop j xs) ≡ Ok z → f (get_or xs (j - 1) (pos 0)) z ≡ Err e → fold_by f xs ≡ Err e
fold_stops f xs j z e l h g k = fold_fault f xs (j - 1) e (omega arith) (fold_before f xs j z l h g ∙ k)

fold_cells : (f : Dyadic) (xs : List ℤ) → 0 < length xs → fold f (map Num xs) ≡ ok_map Num (fold_by (dyadic_of f) xs)
fold_cells f [] h = absurd (omega arith)
fold_cells f (x ∷ []) h = refl
fold_cells f (x ∷ y ∷ ys) h =
    ap (λ (r : Result Cell Fault). and_then r (λ e. applied f (Num x) e)) (fold_cells f (y ∷ ys) (omega arith)) ∙ each (fold_by (dyadic_of f) (y ∷ ys))
  where
    each : (r : Result ℤ Fault) → and_then (ok_map Num r) (λ e. applied f (Num x) e) ≡ ok_map Num (and_then r (λ z. dyadic_of f x z))
    each (Ok z) = refl
    each (Err e) = refl

-- the fold of items that are numbers
pub folded_numbers : (f : Dyadic) (xs : List ℤ) → 0 < length xs → folded f (map Num xs) ≡ fold_by (dyadic_of f) xs
folded_numbers f xs h = ap (ok_map number_in) (fold_cells f xs h) ∙ each (fold_by (dyadic_of f) xs)
  where
    each : (r : Result ℤ Fault) → ok_map number_in (ok_map Num r) ≡ r
    each (Ok z) = refl
    each (Err e) = refl
