-- What fits over a shape is enough for it.
use Rattle.std.proofs.Common.{◌≡◌, ℕ, ◌*◌, ◌<◌, ◌==◌, Bool, true, false, not, cond, List, [], ◌∷◌, length, refl, ap, sym, ◌∙◌, arith, subst, Result, Ok}
use mathlib.Core.Bool.{beq}
use Rattle.std.proofs.lemmas.Bool.{eqb-true, eq-eqb, ne_eqb}
use Rattle.apl_faults.specs.declared.fault.Fault.{Fault}
use Rattle.apl_faults.specs.declared.fault.Fault.TheVariants.{Rank, Length}
use Rattle.apl_arrays.specs.Index.{size_of}
use Rattle.apl_arrays.specs.Cells.{Arr, Items, Numbers, Characters}
use Rattle.apl_arrays.specs.Checks.{demand, same, count_of}
use Rattle.apl_arrays.specs.Kinds.{are_numbers}
use Rattle.apl_arrays.specs.Results.{and_then}
use Rattle.apl_select.specs.Assignment.{proper, fits_over, same_type}
use Rattle.apl_arrays.specs.Written.{AreEnough}
use Rattle.apl_select.proofs.Overlay.{same_is}

-- axes of length 1 leave the size as it is
size_proper : (s : List ℕ) → size_of (proper s) ≡ size_of s
size_proper [] = refl
size_proper (n ∷ ns) = each (n == 1) (λ t. eqb-true n 1 t) (size_proper ns)
  where
    alone : (a b : ℕ) → a ≡ b → a ≡ 1 * b
    alone a b e = omega arith

    each : (t : Bool) → (t ≡ true → n ≡ 1) → size_of (proper ns) ≡ size_of ns → size_of (cond (not t) (n ∷ proper ns) (proper ns)) ≡ n * size_of ns
    each true one e = alone (size_of (proper ns)) (size_of ns) e ∙ sym (ap (λ (m : ℕ). m * size_of ns) (one refl))
    each false one e = ap (λ (s : ℕ). n * s) e

-- the lengths compared
abbrev pub compared : List ℕ → List ℕ → Result (Unit {0}) Fault
compared found wanted = and_then (demand (length found == length wanted) Rank) (λ u. demand (same found wanted) Length)

-- one element fits
pub fits_one : (shape : List ℕ) (b : Arr) → count_of b ≡ 1 → fits_over shape b ≡ Ok tt
fits_one shape b e = ap (λ (t : Bool). cond t (Ok tt) (compared (proper b.shape) (proper shape))) (eq-eqb (count_of b) 1 e)

-- of others the lengths decide
pub fits_many : (shape found wanted : List ℕ) (b : Arr) (r : Result (Unit {0}) Fault) → (count_of b ≡ 1 → ⊥) → found ≡ proper b.shape → wanted ≡ proper shape → r ≡ compared found wanted → fits_over shape b ≡ r
fits_many shape found wanted b r h d e g =
    ap (λ (t : Bool). cond t (Ok tt) (compared (proper b.shape) (proper shape))) (ne_eqb (count_of b) 1 h)
    ∙ sym (g ∙ ap (λ (l : List ℕ). compared l wanted) d ∙ ap (λ (l : List ℕ). compared (proper b.shape) l) e)

enough_one : (n m : ℕ) → n ≡ 1 → AreEnough n m
enough_one n m e =
    let P : ℕ → Type 0 = λ n. AreEnough n m in
    let one : AreEnough 1 m = λ k l. omega arith in
    subst P (sym e) one

enough_same : (n m : ℕ) → n ≡ m → AreEnough n m
enough_same n m e = λ k l. each k l (n == 1)
  where
    each : (k : ℕ) → k < m → (t : Bool) → cond t 0 k < n
    each k l true = omega arith
    each k l false = omega arith

-- what fits is enough
pub fits_enough : (shape joined : List ℕ) (b : Arr) → count_of b ≡ size_of b.shape → fits_over shape b ≡ Ok tt → shape ≡ joined → AreEnough (count_of b) (size_of joined)
fits_enough shape joined b full e s =
    let P : List ℕ → Type 0 = λ l. AreEnough (count_of b) (size_of l) in
    subst P s (at (count_of b == 1) (λ t. eqb-true (count_of b) 1 t) e)
  where
    passed : (p q : Bool) → and_then (demand p Rank) (λ u. demand q Length) ≡ Ok tt → q ≡ true
    passed true true h = refl
    passed true false h = absurd (cc)
    passed false q h = absurd (cc)

    at : (t : Bool) → (t ≡ true → count_of b ≡ 1) → cond t (Ok tt) (compared (proper b.shape) (proper shape)) ≡ Ok tt → AreEnough (count_of b) (size_of shape)
    at true one h = enough_one (count_of b) (size_of shape) (one refl)
    at false one h =
        enough_same (count_of b) (size_of shape)
        (full ∙ sym (size_proper b.shape)
        ∙ ap size_of (same_is (proper b.shape) (proper shape) (passed (length (proper b.shape) == length (proper shape)) (same (proper b.shape) (proper shape)) h))
        ∙ size_proper shape)

-- two kinds are the same
pub same_type_is : (s t : Items) → beq (are_numbers s) (are_numbers t) ≡ same_type s t
same_type_is (Numbers xs) (Numbers ys) = refl
same_type_is (Numbers xs) (Characters ys) = refl
same_type_is (Characters xs) (Numbers ys) = refl
same_type_is (Characters xs) (Characters ys) = refl
