-- Axes by numbers, one after another.
use Rattle.std.proofs.Common.{◌≡◌, ℕ, zero, suc, ℤ, pos, ◌+◌, ◌-◌, ◌<◌, ◌==◌, ◌&&◌, ◌||◌, Bool, true, nat_lt, List, [], ◌∷◌, ◌++◌, map, length, get_or, drop, Result, Ok, ap, sym, ◌∙◌, arith}
use Rattle.std.specs.List.{list_all, list_any, range_with_len, All}
use Rattle.std.proofs.lemmas.Bool.{ltb-true}
use Rattle.std.proofs.lemmas.List.{drop_more}
use Rattle.std.proofs.lemmas.List.FromFn.{length-map-range_with_len, get_or-map-range_with_len}
use Rattle.apl_faults.specs.declared.fault.Fault.{Fault}
use Rattle.apl_arrays.specs.Results.{all_ok}
use Rattle.apl_arrays.proofs.InTurn.{after, after_step}
use Rattle.apl_arrays.proofs.Places.{both}
use Rattle.apl_turns.specs.Turns.{have_no_gap}

-- an axis more
pub axes_step : (f : ℤ → Result ℕ Fault) (out new : List ℕ) (zs : List ℤ) (k m : ℕ) → k < length zs → f (get_or zs k (pos 0)) ≡ Ok m → new ≡ out ++ m ∷ [] → after new (all_ok f (drop (k + 1) zs)) ≡ after out (all_ok f (drop k zs))
axes_step f out new zs k m h e g =
    ap (λ l. after l (all_ok f (drop (k + 1) zs))) g ∙ after_step f out (get_or zs k (pos 0)) m (drop (k + 1) zs) e ∙ ap (λ l. after out (all_ok f l)) (sym (drop_more zs k (pos 0) h))

-- the axes in the other order are axes
pub order_within : (n : ℕ) (ms : List ℕ) → ms ≡ map (λ m. n - 1 - m) (range_with_len 0 n) → All (λ m. m < n) ms
order_within n ms e k d h =
    let below : k < n = omega (arith, h, ap length e, length-map-range_with_len (λ m. n - 1 - m) 0 n) in
    omega (arith, ap (λ l. get_or l k d) e, get_or-map-range_with_len (λ m. n - 1 - m) 0 n k k d below (omega arith))

pub order_length : (n : ℕ) (ms : List ℕ) → ms ≡ map (λ m. n - 1 - m) (range_with_len 0 n) → length ms ≡ n
order_length n ms e = ap length e ∙ length-map-range_with_len (λ m. n - 1 - m) 0 n

-- axes without a gap lie below their count
pub places_within : (ms : List ℕ) → have_no_gap ms ≡ true → All (λ m. m < length ms) ms
places_within ms e k d h = each (length ms) (λ m. (m == 0) || list_any (λ k. k == m - 1) ms) ms k d h e
  where
    each : (n : ℕ) (p : ℕ → Bool) (xs : List ℕ) (k d : ℕ) → k < length xs → list_all (λ m. nat_lt m n && p m) xs ≡ true → get_or xs k d < n
    each n p [] k d h e = absurd (omega arith)
    each n p (x ∷ xs) zero d h e = ltb-true x n (both (nat_lt x n) (p x) (both (nat_lt x n && p x) (list_all (λ m. nat_lt m n && p m) xs) e).0).0
    each n p (x ∷ xs) (suc k) d h e = each n p xs k d (omega arith) (both (nat_lt x n && p x) (list_all (λ m. nat_lt m n && p m) xs) e).1
