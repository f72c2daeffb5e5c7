-- Folds of characters.
use Rattle.std.proofs.Common.{◌≡◌, ◌≢◌, ℕ, ℤ, ◌≤◌, Bool, true, false, cond, List, [], ◌∷◌, map, length, Result, Ok, Err, refl, ap, sym, ◌∙◌, arith}
use Rattle.apl_faults.specs.declared.fault.Fault.{Fault}
use Rattle.apl_arrays.specs.declared.cell.Cell.{Cell}
use Rattle.apl_arrays.specs.declared.cell.Cell.TheVariants.{Num, Char}
use Rattle.apl_arrays.specs.Results.{and_then, ok_map}
use Rattle.apl_scalar.specs.declared.function.Dyadic.{Dyadic}
use Rattle.apl_scalar.specs.declared.function.Dyadic.TheVariants as two
use Rattle.apl_scalar.specs.Extension.{compared}
use Rattle.apl_folds.specs.Folds.{applied, fold, number_in, folded}
use Rattle.apl_folds.specs.Lines.{agree}

-- what faults for some items faults for others
compared_fault : (f : Dyadic) (b : Bool) (e : Fault) → compared f b ≡ Err e → compared f false ≡ Err e
compared_fault two.Equal b e h = absurd (cc)
compared_fault two.NotEqual b e h = absurd (cc)
compared_fault _ b e h = h

fold_characters : (f : Dyadic) (cs : List ℕ) → 2 ≤ length cs → fold f (map Char cs) ≡ ok_map Num (compared f (agree cs))
fold_characters f [] h = absurd (omega arith)
fold_characters f (c ∷ []) h = absurd (omega arith)
fold_characters f (c ∷ d ∷ []) h = refl
fold_characters f (c ∷ d ∷ e ∷ es) h =
    ap (λ (r : Result Cell Fault). and_then r (λ e. applied f (Char c) e)) (fold_characters f (d ∷ e ∷ es) (omega arith))
    ∙ each (compared f (agree (d ∷ e ∷ es))) (λ x g. compared_fault f (agree (d ∷ e ∷ es)) x g)
  where
    each : (r : Result ℤ Fault) → ((x : Fault) → r ≡ Err x → compared f false ≡ Err x) → and_then (ok_map Num r) (λ e. applied f (Char c) e) ≡ ok_map Num (compared f false)
    each (Ok z) k = refl
    each (Err x) k = ap (ok_map Num) (sym (k x refl))

pub folded_characters : (f : Dyadic) (cs : List ℕ) → 2 ≤ length cs → folded f (map Char cs) ≡ compared f (agree cs)
folded_characters f cs h = ap (ok_map number_in) (fold_characters f cs h) ∙ each (compared f (agree cs))
  where
    each : (r : Result ℤ Fault) → ok_map number_in (ok_map Num r) ≡ r
    each (Ok z) = refl
    each (Err e) = refl

pub agree_two : (cs : List ℕ) → length cs ≢ 2 → agree cs ≡ false
agree_two [] h = refl
agree_two (c ∷ []) h = refl
agree_two (c ∷ d ∷ []) h = absurd (h refl)
agree_two (c ∷ d ∷ e ∷ es) h = refl

pub verdict : (f : Dyadic) (b : Bool) (same other : Result ℤ Fault) → same ≡ compared f true → other ≡ compared f false → compared f b ≡ cond b same other
verdict f true same other g h = sym g
verdict f false same other g h = sym h
