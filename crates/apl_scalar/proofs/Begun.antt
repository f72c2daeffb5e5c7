-- The values so far, and with more of them.
use Rattle.std.proofs.Common.{◌≡◌, ℕ, zero, suc, ℤ, pos, ◌+◌, ◌-◌, ◌<◌, ◌≤◌, List, [], ◌∷◌, ◌++◌, map, length, get_or, Result, Ok, Err, refl, ap, sym, ◌∙◌, subst, arith, length-append, add-zero}
use Rattle.std.specs.Prelude.{Bool, OnOk}
use Rattle.std.specs.List.{range_with_len}
use Rattle.apl_faults.specs.declared.fault.Fault.{Fault}
use Rattle.apl_arrays.specs.Results.{all_ok}
use Rattle.apl_arrays.proofs.InTurn.{after, turns_start, turns_part, turns_whole, turns_fault}
use Rattle.apl_scalar.specs.Operands.{Shown, number_at, values_of}
use Rattle.apl_scalar.specs.Lanes.{AddsValues, IsBegun, IsPiece}
use Rattle.apl_scalar.proofs.OfLanes.{as_many, numbers-append}

-- none so far
pub begun_none : (f : ℤ → ℤ → Result ℤ Fault) (x y : ℕ → ℤ) (count : ℕ) → IsBegun f x y count []
begun_none f x y count = (omega arith, refl)

-- all of them
pub begun_whole : (f : ℤ → ℤ → Result ℤ Fault) (x y : ℕ → ℤ) (count : ℕ) (zs : List ℤ) → IsBegun f x y count zs → count ≤ length zs → values_of f x y count ≡ Ok zs
begun_whole f x y count zs begun h = let e : count ≡ length zs = let b = begun.0 in omega arith in ap (values_of f x y) e ∙ begun.1

-- what comes after the values so far decides the rest
begun_rest : (f : ℤ → ℤ → Result ℤ Fault) (x y : ℕ → ℤ) (n : ℕ) (zs : List ℤ) → length zs ≤ n → values_of f x y (length zs) ≡ Ok zs →
    values_of f x y n ≡ after zs (all_ok (λ k. f (x k) (y k)) (range_with_len (length zs) (n - length zs)))
begun_rest f x y n zs h e =
    let at : ℕ → Result ℤ Fault = λ k. f (x k) (y k) in
    sym (turns_start at [] n refl) ∙ sym (turns_part at [] zs 0 (length zs) n (omega arith) h (turns_start at [] (length zs) refl ∙ e))

-- with the values for the next places
pub begun_more : (f : ℤ → ℤ → Result ℤ Fault) (x y p q : ℕ → ℤ) (count from n : ℕ) (old new : List ℤ) → from ≡ length old → from + n ≤ count →
    ((k : ℕ) → k < n → p k ≡ x (from + k)) → ((k : ℕ) → k < n → q k ≡ y (from + k)) → IsBegun f x y count old → AddsValues f p q n old new → IsBegun f x y count new
begun_more f x y p q count from n old new here room e_x e_y begun (zs, made, few, values) =
    let long : length (old ++ zs) ≡ from + length zs = length-append old zs ∙ ap (λ (i : ℕ). i + length zs) (sym here) in
    let within : length (old ++ zs) ≤ count = omega arith in
    let same : (j : ℕ) → length old + j ≡ from + j = λ j. ap (λ (i : ℕ). i + j) (sym here) in
    let whole : values_of f x y (length (old ++ zs)) ≡ Ok (old ++ zs) =
    begun_rest f x y (length (old ++ zs)) old (omega arith) begun.1
    ∙ turns_whole (λ k. f (x k) (y k)) (pos 0) zs old (length old) (length (old ++ zs)) (omega arith) (omega arith)
    (λ j h.
    ap (λ (k : ℕ). f (x k) (y k)) (same j) ∙ ap (λ (z : ℤ). f z (y (from + j))) (sym (e_x j (omega arith))) ∙ ap (λ (z : ℤ). f (p j) z) (sym (e_y j (omega arith))) ∙ values j h)
    in
    subst (λ (l : List ℤ). IsBegun f x y count l) (sym made) (within, whole)

-- with those for a piece, where there was memory
pub begun_piece : {E : Type 0} (r : Result Bool E) (f : ℤ → ℤ → Result ℤ Fault) (a b p q : Shown) (from till : ℕ) (old new : List ℤ) → from ≡ length old → from ≤ till → IsPiece a from till p → IsPiece b from till q →
    IsBegun f (number_at a) (number_at b) till old → OnOk r (AddsValues f (number_at p) (number_at q) (till - from) old new) → OnOk r (IsBegun f (number_at a) (number_at b) till new)
begun_piece (Ok x) f a b p q from till old new here order e_a e_b begun added =
    begun_more f (number_at a) (number_at b) (number_at p) (number_at q) till from (till - from) old new here (omega arith) e_a.1 e_b.1 begun added
begun_piece (Err e) f a b p q from till old new here order e_a e_b begun added = tt

-- with the value for the next place
pub begun_one : (f : ℤ → ℤ → Result ℤ Fault) (x y : ℕ → ℤ) (count k : ℕ) (old : List ℤ) (z : ℤ) → k ≡ length old → k < count → f (x k) (y k) ≡ Ok z → IsBegun f x y count old → IsBegun f x y count (old ++ z ∷ [])
begun_one f x y count k old z e h here begun =
    begun_more f x y (λ j. x (k + j)) (λ j. y (k + j)) count k 1 old (old ++ z ∷ []) e (omega arith) (λ j l. refl) (λ j l. refl) begun (z ∷ [], refl, omega arith, one)
  where
    one : (j : ℕ) → j < 1 → f (x (k + j)) (y (k + j)) ≡ Ok (get_or (z ∷ []) j (pos 0))
    one zero l = ap (λ (i : ℕ). f (x i) (y i)) (add-zero k) ∙ here
    one (suc j) l = absurd (omega arith)

-- the same where an item is pushed
pub begun_push : {A : Type 0} (value : A → ℤ) (numbers : List A → List ℤ) → ((xs : List A) → numbers xs ≡ map value xs) → (f : ℤ → ℤ → Result ℤ Fault) (x y : ℕ → ℤ) (count k : ℕ) (old new : List A) (z : A) →
    k ≡ length old → new ≡ old ++ z ∷ [] → k < count → f (x k) (y k) ≡ Ok (value z) → IsBegun f x y count (numbers old) → IsBegun f x y count (numbers new)
begun_push value numbers each f x y count k old new z e more h here begun =
    let made : numbers new ≡ numbers old ++ value z ∷ [] = ap numbers more ∙ numbers-append value numbers each old (z ∷ []) ∙ ap (λ (l : List ℤ). numbers old ++ l) (each (z ∷ [])) in
    subst (λ (l : List ℤ). IsBegun f x y count l) (sym made) (begun_one f x y count k (numbers old) (value z) (e ∙ sym (as_many value numbers each old)) h here begun)

-- the next place has a fault
pub begun_fault : (f : ℤ → ℤ → Result ℤ Fault) (x y : ℕ → ℤ) (count k : ℕ) (old : List ℤ) (e : Fault) → k ≡ length old → k < count → f (x k) (y k) ≡ Err e → IsBegun f x y count old → values_of f x y count ≡ Err e
begun_fault f x y count k old e s h here begun =
    begun_rest f x y count old begun.0 begun.1 ∙ turns_fault (λ j. f (x j) (y j)) old e (length old) count (omega arith) (ap (λ (i : ℕ). f (x i) (y i)) (sym s) ∙ here)

-- what a call with the numbers of a place gives
pub at_place : {A : Type 0} (f : ℤ → ℤ → A) (x y i j : ℤ) (r : A) → i ≡ x → j ≡ y → f i j ≡ r → f x y ≡ r
at_place f x y i j r p q e = cc

-- the same for operands that show the same
pub begun_along : {T E : Type 0} (r : Result T E) (f : ℤ → ℤ → Result ℤ Fault) (a b p q : Shown) (count : ℕ) (zs : List ℤ) → p ≡ a → q ≡ b →
    OnOk r (IsBegun f (number_at p) (number_at q) count zs) → OnOk r (IsBegun f (number_at a) (number_at b) count zs)
begun_along r f a b p q count zs e_a e_b h =
    let first : OnOk r (IsBegun f (number_at a) (number_at q) count zs) = subst (λ (s : Shown). OnOk r (IsBegun f (number_at s) (number_at q) count zs)) e_a h in
    subst (λ (s : Shown). OnOk r (IsBegun f (number_at a) (number_at s) count zs)) e_b first
