-- Folds of what meets, one after another.
use Rattle.std.proofs.Common.{◌≡◌, ℕ, ℤ, ◌+◌, ◌-◌, ◌<◌, ◌≤◌, List, [], ◌∷◌, ◌++◌, map, length, Option, None, Some, Result, Ok, Err, refl, ap, sym, ◌∙◌, append-nil}
use Rattle.std.specs.List.{range_with_len}
use Rattle.apl_faults.specs.declared.fault.Fault.{Fault}
use Rattle.apl_arrays.specs.declared.cell.Cell.TheVariants.{Num}
use Rattle.apl_arrays.specs.Results.{and_then, ok_map, all_ok}
use Rattle.apl_arrays.proofs.InTurn.{after_none, after_one, range_step, range_none, all_ok-map, turns_same, length-all_ok}
use Rattle.apl_folds.proofs.Faults.{fails_first}
use Rattle.apl_arrays.proofs.Gathers.{from_none}
use Rattle.apl_scalar.specs.declared.function.Dyadic.{Dyadic}
use Rattle.apl_folds.specs.Folds.{folded}
use Rattle.apl_operators.specs.Joints.{folds_of, folds_after, so_far}

pub folds_start : (f : Dyadic) (meet : ℕ → Result (List ℤ) Fault) (out : List ℤ) (n : ℕ) → out ≡ [] → folds_after out None f meet (range_with_len 0 (n - 0)) ≡ folds_of f meet (range_with_len 0 n)
folds_start f meet out n e =
    ap (λ (l : List ℤ). folds_after l None f meet (range_with_len 0 (n - 0))) e ∙ ap (λ (m : ℕ). folds_after [] None f meet (range_with_len 0 m)) (from_none n)
    ∙ each (all_ok meet (range_with_len 0 n))
  where
    each : (r : Result (List (List ℤ)) Fault) →
        and_then r (λ rows. and_then (so_far [] None) (λ ys. ok_map (λ ws. ys ++ ws) (all_ok (λ row. folded f (map Num row)) rows))) ≡ and_then r (λ rows. all_ok (λ row. folded f (map Num row)) rows)
    each (Ok rows) = after_none (all_ok (λ row. folded f (map Num row)) rows)
    each (Err e) = refl

one_more : (s : Result (List ℤ) Fault) (p : Result ℤ Fault) (r : Result (List ℤ) Fault) →
    and_then (and_then s (λ zs. ok_map (λ z. zs ++ z ∷ []) p)) (λ ys. ok_map (λ ws. ys ++ ws) r) ≡ and_then s (λ ys. ok_map (λ ws. ys ++ ws) (and_then p (λ y. ok_map (λ l. y ∷ l) r)))
one_more (Err e) p r = refl
one_more (Ok zs) (Err e) r = refl
one_more (Ok zs) (Ok z) r = after_one zs z r

pub folds_step : (f : Dyadic) (meet : ℕ → Result (List ℤ) Fault) (old new : List ℤ) (was now : Option Fault) (row : List ℤ) (k n : ℕ) → k < n → meet k ≡ Ok row →
    so_far new now ≡ and_then (so_far old was) (λ zs. ok_map (λ z. zs ++ z ∷ []) (folded f (map Num row))) →
    folds_after new now f meet (range_with_len (k + 1) (n - (k + 1))) ≡ folds_after old was f meet (range_with_len k (n - k))
folds_step f meet old new was now row k n h e g =
    each (all_ok meet (range_with_len (k + 1) (n - (k + 1))))
    ∙ ap (λ (m : Result (List ℤ) Fault). and_then (and_then m (λ y. ok_map (λ ys. y ∷ ys) (all_ok meet (range_with_len (k + 1) (n - (k + 1)))))) (λ rows. and_then (so_far old was) (λ ys. ok_map (λ ws. ys ++ ws) (all_ok (λ row. folded f (map Num row)) rows)))) (sym e)
    ∙ ap (folds_after old was f meet) (sym (range_step k n h))
  where
    each : (q : Result (List (List ℤ)) Fault) →
        and_then q (λ rows. and_then (so_far new now) (λ ys. ok_map (λ ws. ys ++ ws) (all_ok (λ row. folded f (map Num row)) rows)))
        ≡ and_then (ok_map (λ rows. row ∷ rows) q) (λ rows. and_then (so_far old was) (λ ys. ok_map (λ ws. ys ++ ws) (all_ok (λ row. folded f (map Num row)) rows)))
    each (Ok rows) =
        ap (λ (s : Result (List ℤ) Fault). and_then s (λ ys. ok_map (λ ws. ys ++ ws) (all_ok (λ row. folded f (map Num row)) rows))) g
        ∙ one_more (so_far old was) (folded f (map Num row)) (all_ok (λ row. folded f (map Num row)) rows)
    each (Err e) = refl

pub folds_fault : (f : Dyadic) (meet : ℕ → Result (List ℤ) Fault) (out : List ℤ) (was : Option Fault) (e : Fault) (k n : ℕ) → k < n → meet k ≡ Err e → folds_after out was f meet (range_with_len k (n - k)) ≡ Err e
folds_fault f meet out was e k n h g =
    ap (folds_after out was f meet) (range_step k n h)
    ∙ ap (λ (m : Result (List ℤ) Fault). and_then (and_then m (λ y. ok_map (λ ys. y ∷ ys) (all_ok meet (range_with_len (k + 1) (n - (k + 1)))))) (λ rows. and_then (so_far out was) (λ ys. ok_map (λ ws. ys ++ ws) (all_ok (λ row. folded f (map Num row)) rows)))) g

pub folds_end : (f : Dyadic) (meet : ℕ → Result (List ℤ) Fault) (out : List ℤ) (was : Option Fault) (k n : ℕ) → n ≤ k → folds_after out was f meet (range_with_len k (n - k)) ≡ so_far out was
folds_end f meet out was k n h = ap (folds_after out was f meet) (range_none k n h) ∙ each was
  where
    each : (was : Option Fault) → and_then (so_far out was) (λ ys. ok_map (λ ws. ys ++ ws) (Ok [])) ≡ so_far out was
    each None = ap (λ (l : List ℤ). Ok l) (append-nil out)
    each (Some e) = refl

-- where nothing meets, folds of nothing
pub nothing_met : (f : Dyadic) (meet : ℕ → Result (List ℤ) Fault) (n : ℕ) → ((r : ℕ) → meet r ≡ Ok []) → folds_of f meet (range_with_len 0 n) ≡ all_ok (λ k. folded f []) (range_with_len 0 n)
nothing_met f meet n h =
    ap (λ (q : Result (List (List ℤ)) Fault). and_then q (λ rows. all_ok (λ row. folded f (map Num row)) rows)) (all_none (range_with_len 0 n))
    ∙ all_ok-map (λ row. folded f (map Num row)) (λ (r : ℕ). no_numbers) (range_with_len 0 n)
  where
    no_numbers : List ℤ
    no_numbers = []

    all_none : (rs : List ℕ) → all_ok meet rs ≡ Ok (map (λ r. no_numbers) rs)
    all_none [] = refl
    all_none (r ∷ rs) =
        ap (λ (m : Result (List ℤ) Fault). and_then m (λ y. ok_map (λ ys. y ∷ ys) (all_ok meet rs))) (h r)
        ∙ ap (λ (q : Result (List (List ℤ)) Fault). ok_map (λ ys. no_numbers ∷ ys) q) (all_none rs)

-- what meets the same has the same folds
pub folds_same : (f : Dyadic) (meet other : ℕ → Result (List ℤ) Fault) (n : ℕ) → ((r : ℕ) → r < n → meet r ≡ other r) → folds_of f meet (range_with_len 0 n) ≡ folds_of f other (range_with_len 0 n)
folds_same f meet other n h = ap (λ (q : Result (List (List ℤ)) Fault). and_then q (λ rows. all_ok (λ row. folded f (map Num row)) rows)) (turns_same meet other n h)

pub folds_fail : (f : Dyadic) (meet : ℕ → Result (List ℤ) Fault) (e : Fault) (n : ℕ) → 0 < n → meet 0 ≡ Err e → folds_of f meet (range_with_len 0 n) ≡ Err e
folds_fail f meet e n h g = ap (λ (q : Result (List (List ℤ)) Fault). and_then q (λ rows. all_ok (λ row. folded f (map Num row)) rows)) (fails_first meet e n h g)

-- as many folds as index lists
pub length-folded : {A : Type 0} (fold : List ℤ → Result ℤ Fault) (meet : A → Result (List ℤ) Fault) (is : List A) (zs : List ℤ) → and_then (all_ok meet is) (λ rows. all_ok fold rows) ≡ Ok zs → length zs ≡ length is
length-folded fold meet is zs e = each (all_ok meet is) refl e
  where
    each : (q : Result (List (List ℤ)) Fault) → all_ok meet is ≡ q → and_then q (λ rows. all_ok fold rows) ≡ Ok zs → length zs ≡ length is
    each (Ok rows) g h = length-all_ok fold rows zs h ∙ length-all_ok meet is rows g
    each (Err x) g h = absurd (cc)
