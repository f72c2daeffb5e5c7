-- Folds whose last two numbers are taken together.
use Rattle.std.proofs.Common.{◌≡◌, zero, suc, ℤ, pos, negsuc, List, [], ◌∷◌, ◌++◌, Option, None, Some, Result, Ok, Err, refl, ap, sym, ◌∙◌, append_assoc}
use Rattle.std.specs.Option.{IfSome}
use Rattle.apl_faults.specs.declared.fault.Fault.{Fault}
use Rattle.apl_arrays.specs.Results.{and_then}
use Rattle.apl_folds.specs.declared.ends.Ends.{Ends}
use Rattle.apl_folds.specs.inside.Ends.{pick, truth, truths, told_at}
use Rattle.apl_folds.specs.Lines.{fold_by}

last_two : (f : ℤ → ℤ → Result ℤ Fault) (xs : List ℤ) (x y : ℤ) → fold_by f (xs ++ x ∷ y ∷ []) ≡ and_then (f x y) (λ w. fold_by f (xs ++ w ∷ []))
last_two f [] x y = each (f x y)
  where
    each : (r : Result ℤ Fault) → r ≡ and_then r (λ w. Ok w)
    each (Ok z) = refl
    each (Err e) = refl
last_two f (z ∷ []) x y = refl
last_two f (z ∷ u ∷ us) x y =
    ap (λ (r : Result ℤ Fault). and_then r (λ v. f z v)) (last_two f (u ∷ us) x y) ∙ each (f x y)
  where
    each : (r : Result ℤ Fault) → and_then (and_then r (λ w. fold_by f (u ∷ us ++ w ∷ []))) (λ v. f z v) ≡ and_then r (λ w. and_then (fold_by f (u ∷ us ++ w ∷ [])) (λ v. f z v))
    each (Ok w) = refl
    each (Err e) = refl

-- with two numbers more the fold is that with their value in place of them
pub with_two : (f : ℤ → ℤ → Result ℤ Fault) (xs : List ℤ) (x y : ℤ) → fold_by f ((xs ++ x ∷ []) ++ y ∷ []) ≡ and_then (f x y) (λ w. fold_by f (xs ++ w ∷ []))
with_two f xs x y = ap (fold_by f) (append_assoc xs (x ∷ []) (y ∷ [])) ∙ last_two f xs x y

picked : (r : Result ℤ Fault) (z : ℤ) → pick (Some (pos 0)) (Some (pos 1)) r ≡ Some z → r ≡ Ok z
picked (Ok (pos zero)) z e = cc
picked (Ok (pos (suc zero))) z e = cc
picked (Ok (pos (suc (suc n)))) z e = absurd (cc)
picked (Ok (negsuc n)) z e = absurd (cc)
picked (Err f) z e = absurd (cc)

-- it is the fold
pub truths_fold : (f : ℤ → ℤ → Result ℤ Fault) (xs : List ℤ) (y z : ℤ) → truths f xs y ≡ Some z → fold_by f (xs ++ y ∷ []) ≡ Ok z
truths_fold f [] y z e = cc
truths_fold f (x ∷ xs) y z e = cases (truths f xs y) refl e (truths_fold f xs y)
  where
    cons : (xs : List ℤ) → fold_by f (x ∷ (xs ++ y ∷ [])) ≡ and_then (fold_by f (xs ++ y ∷ [])) (λ v. f x v)
    cons [] = refl
    cons (u ∷ us) = refl

    cases : (o : Option ℤ) → truths f xs y ≡ o → truth f x o ≡ Some z → ((v : ℤ) → truths f xs y ≡ Some v → fold_by f (xs ++ y ∷ []) ≡ Ok v) → fold_by f (x ∷ (xs ++ y ∷ [])) ≡ Ok z
    cases None g h rest = absurd (cc)
    cases (Some v) g h rest = cons xs ∙ ap (λ (r : Result ℤ Fault). and_then r (λ v. f x v)) (rest v g) ∙ picked (f x v) z h

truths_more : (f : ℤ → ℤ → Result ℤ Fault) (xs : List ℤ) (x y : ℤ) → truths f (xs ++ x ∷ []) y ≡ pick (truths f xs (pos 0)) (truths f xs (pos 1)) (f x y)
truths_more f [] x y = refl
truths_more f (z ∷ zs) x y = ap (truth f z) (truths_more f zs x y) ∙ each (f x y)
  where
    each : (r : Result ℤ Fault) → truth f z (pick (truths f zs (pos 0)) (truths f zs (pos 1)) r) ≡ pick (truth f z (truths f zs (pos 0))) (truth f z (truths f zs (pos 1))) r
    each (Ok (pos zero)) = refl
    each (Ok (pos (suc zero))) = refl
    each (Ok (pos (suc (suc n)))) = refl
    each (Ok (negsuc n)) = refl
    each (Err e) = refl

-- the last number is now this one, and 0 and 1 stand for it as the numbers before tell
pub ends_next : (f : ℤ → ℤ → Result ℤ Fault) (xs : List ℤ) (s : Ends) (x : ℤ) (zeroth first : Option ℤ) → zeroth ≡ told_at f s (pos 0) → first ≡ told_at f s (pos 1) → ((y : ℤ) → told_at f s y ≡ truths f xs y) →
    (y : ℤ) → pick zeroth first (f x y) ≡ truths f (xs ++ x ∷ []) y
ends_next f xs s x zeroth first a b before y =
    ap (λ (o : Option ℤ). pick o first (f x y)) (a ∙ before (pos 0)) ∙ ap (λ (o : Option ℤ). pick (truths f xs (pos 0)) o (f x y)) (b ∙ before (pos 1)) ∙ sym (truths_more f xs x y)

pub told_fold : (f : ℤ → ℤ → Result ℤ Fault) (s : Ends) (y : ℤ) (o : Option ℤ) → o ≡ told_at f s y → IfSome o (λ z. (xs : List ℤ) → ((y : ℤ) → told_at f s y ≡ truths f xs y) → fold_by f (xs ++ y ∷ []) ≡ Ok z)
told_fold f s y None e = tt
told_fold f s y (Some z) e = λ xs before. truths_fold f xs y z (sym (before y) ∙ sym e)
