-- Lists made axis by axis.
use Rattle.std.proofs.Common.{suc, zero, pos, ◌≡◌, ℕ, ℤ, ◌+◌, ◌-◌, ◌<◌, ◌≤◌, Bool, true, false, cond, min, List, [], ◌∷◌, ◌++◌, length, take, get_or, unsigned_abs, refl, ap, sym, ◌∙◌, arith}
use Rattle.std.specs.Int.{is_negative}
use Rattle.std.proofs.lemmas.List.{take_all}
use Rattle.apl_reshape.specs.Take.{each_axis, left_from, left_length}

-- one axis more
each_next : (f : ℕ → ℤ → ℕ) (s : List ℕ) (zs : List ℤ) (k : ℕ) → k < length s → k < length zs →
    each_axis f (take (suc k) s) (take (suc k) zs) ≡ each_axis f (take k s) (take k zs) ++ f (get_or s k 0) (get_or zs k (pos 0)) ∷ []
each_next f [] zs k h g = absurd (omega arith)
each_next f (n ∷ s) [] k h g = absurd (omega arith)
each_next f (n ∷ s) (z ∷ zs) zero h g = refl
each_next f (n ∷ s) (z ∷ zs) (suc k) h g = ap (λ (l : List ℕ). f n z ∷ l) (each_next f s zs k (omega arith) (omega arith))

pub each_more : (f : ℕ → ℤ → ℕ) (s : List ℕ) (zs : List ℤ) (out new : List ℕ) (k x : ℕ) → k < length s → length s ≡ length zs → out ≡ each_axis f (take k s) (take k zs) → x ≡ f (get_or s k 0) (get_or zs k (pos 0)) →
    new ≡ out ++ x ∷ [] → new ≡ each_axis f (take (k + 1) s) (take (k + 1) zs)
each_more f s zs out new k x h e g i j =
    j
    ∙ ap (λ (y : ℕ). out ++ y ∷ []) i
    ∙ ap (λ (l : List ℕ). l ++ f (get_or s k 0) (get_or zs k (pos 0)) ∷ []) g
    ∙ sym (each_next f s zs k h (omega arith))
    ∙ ap (λ (m : ℕ). each_axis f (take m s) (take m zs)) (next k)
  where
    next : (k : ℕ) → suc k ≡ k + 1
    next k = omega arith

pub each_all : (f : ℕ → ℤ → ℕ) (s : List ℕ) (zs : List ℤ) (out : List ℕ) (k : ℕ) → length s ≤ k → length s ≡ length zs → out ≡ each_axis f (take k s) (take k zs) → out ≡ each_axis f s zs
each_all f s zs out k h e g = g ∙ ap (λ (l : List ℕ). each_axis f l (take k zs)) (take_all k s h) ∙ ap (each_axis f s) (take_all k zs (omega arith))

pub length-each : (f : ℕ → ℤ → ℕ) (s : List ℕ) (zs : List ℤ) → length s ≡ length zs → length (each_axis f s zs) ≡ length s
length-each f [] zs e = refl
length-each f (n ∷ s) [] e = absurd (omega arith)
length-each f (n ∷ s) (z ∷ zs) e = omega (arith, length-each f s zs (omega arith))

-- what is left of an axis lies on it
left_within : (n : ℕ) (z : ℤ) → left_from n z + left_length n z ≤ n
left_within n z = at (is_negative z)
  where
    at : (b : Bool) → cond b 0 (min (unsigned_abs z) n) + (n - unsigned_abs z) ≤ n
    at true = omega arith
    at false = omega arith

pub each_within : (s : List ℕ) (zs : List ℤ) (k : ℕ) → k < length s → get_or (each_axis left_from s zs) k 0 + get_or (each_axis left_length s zs) k 0 ≤ get_or s k 0
each_within [] zs k h = absurd (omega arith)
each_within (n ∷ s) [] k h = omega arith
each_within (n ∷ s) (z ∷ zs) zero h = left_within n z
each_within (n ∷ s) (z ∷ zs) (suc k) h = each_within s zs k (omega arith)

pub fits_within : (fs ls s : List ℕ) (zs : List ℤ) → fs ≡ each_axis left_from s zs → ls ≡ each_axis left_length s zs → (k : ℕ) → k < length s → get_or fs k 0 + get_or ls k 0 ≤ get_or s k 0
fits_within fs ls s zs e f k h = rw (e, f) (each_within s zs k h)
