-- Lists, one element after another, and from their ends.
use Rattle.std.proofs.Common.{◌≡◌, ℕ, zero, suc, ◌+◌, ◌-◌, ◌<◌, ◌≤◌, List, [], ◌∷◌, ◌++◌, length, take, drop, reverse, Some, refl, sym, ap, ◌∙◌, subst, arith, add-one, ⊎_elim}
use Rattle.std.specs.List.{slice_get}
use Rattle.std.proofs.lemmas.Bool.{cases_lt}
use Rattle.std.proofs.lemmas.List.{reverse-append, length-reverse, take-append-drop, length-drop, drop_all}
use Rattle.std.proofs.Math.Seq.{drop-append_seam}

got_drop_suc : {X : Type 0} (xs : List X) (k : ℕ) (x : X) → slice_get xs k ≡ Some x → drop k xs ≡ x ∷ drop (suc k) xs
got_drop_suc [] k x e = absurd cc
got_drop_suc (y ∷ xs) zero x e = let t : y ≡ x = cc in ap (λ z. z ∷ xs) t
got_drop_suc (y ∷ xs) (suc k) x e = got_drop_suc xs k x e

-- the list from a place on, by its element there
pub got_drop : {X : Type 0} (xs : List X) (k : ℕ) (x : X) → slice_get xs k ≡ Some x → drop k xs ≡ x ∷ drop (k + 1) xs
got_drop xs k x e = rw (add-one k) (got_drop_suc xs k x e)

-- the start of a list has the same elements
pub got_take : {X : Type 0} (xs : List X) (n k : ℕ) → k < n → slice_get (take n xs) k ≡ slice_get xs k
got_take [] zero k h = refl
got_take [] (suc n) k h = refl
got_take (x ∷ xs) zero k h = absurd (omega arith)
got_take (x ∷ xs) (suc n) zero h = refl
got_take (x ∷ xs) (suc n) (suc k) h = got_take xs n k (omega arith)

pub drop_prefix : {X : Type 0} (n : ℕ) (xs ys : List X) → n ≡ length xs → drop n (xs ++ ys) ≡ ys
drop_prefix n xs ys e = subst (λ (m : ℕ). drop m (xs ++ ys) ≡ ys) (sym e) (drop-append_seam xs ys)

-- without the last n elements, from the end
pub reverse_take : {X : Type 0} (xs : List X) (n : ℕ) → reverse (take (length xs - n) xs) ≡ drop n (reverse xs)
reverse_take xs n = ⊎_elim (λ lt. past lt) (λ le. within le) (cases_lt (length xs) n)
  where
    past : length xs < n → reverse (take (length xs - n) xs) ≡ drop n (reverse xs)
    past lt =
        let z : length xs - n ≡ 0 = omega arith in
        ap (λ (m : ℕ). reverse (take m xs)) z ∙ sym (drop_all n (reverse xs) (omega (arith, length-reverse xs)))

    within : n ≤ length xs → reverse (take (length xs - n) xs) ≡ drop n (reverse xs)
    within le =
        let m = length xs - n in
        let e : n ≡ length (reverse (drop m xs)) = omega (arith, length-reverse (drop m xs), length-drop m xs) in
        sym (ap (λ ys. drop n (reverse ys)) (sym (take-append-drop m xs)) ∙ ap (drop n) (reverse-append (take m xs) (drop m xs)) ∙ drop_prefix n (reverse (drop m xs)) (reverse (take m xs)) e)

-- and with one more
pub reverse_push : {X : Type 0} (xs : List X) (x : X) → reverse (xs ++ x ∷ []) ≡ x ∷ reverse xs
reverse_push xs x = reverse-append xs (x ∷ [])
