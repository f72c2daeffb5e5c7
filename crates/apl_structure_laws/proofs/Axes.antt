-- Lists in which the item for one axis is changed.
use Rattle.std.proofs.Common.{suc, zero, ◌≡◌, ℕ, ◌<◌, ◌≤◌, true, nat_lt, max, List, [], ◌∷◌, length, get_or, refl, ap, sym, ◌∙◌, arith}
use Rattle.std.proofs.lemmas.Bool.{eq-eqb, le-leb}
use Rattle.std.proofs.Math.Nat.{mul-le-mul_left, mul-le-mul_right}
use Rattle.apl_arrays.specs.Checks.{is_limited, same}
use Rattle.apl_arrays.specs.Index.{bound_of, is_within}
use Rattle.apl_arrays.specs.Axes.{without}
use Rattle.apl_arrays.specs.Views.{on_axis}
use Rattle.apl_arrays.proofs.Places.{both, within_head}
use Rattle.apl_arrays.proofs.Order.{within_cons}

pub on_axis-on_axis : (k : ℕ) (f g : ℕ → ℕ) (i : List ℕ) → on_axis k f (on_axis k g i) ≡ on_axis k (λ n. f (g n)) i
on_axis-on_axis zero f g [] = refl
on_axis-on_axis (suc k) f g [] = refl
on_axis-on_axis zero f g (n ∷ i) = refl
on_axis-on_axis (suc k) f g (n ∷ i) = ap (λ l. n ∷ l) (on_axis-on_axis k f g i)

pub on_axis-stays : (k : ℕ) (f : ℕ → ℕ) (i : List ℕ) → (k < length i → f (get_or i k 0) ≡ get_or i k 0) → on_axis k f i ≡ i
on_axis-stays zero f [] h = refl
on_axis-stays (suc k) f [] h = refl
on_axis-stays zero f (n ∷ i) h = ap (λ m. m ∷ i) (h (omega arith))
on_axis-stays (suc k) f (n ∷ i) h = ap (λ l. n ∷ l) (on_axis-stays k f i (λ b. h (omega arith)))

pub length-on_axis : (k : ℕ) (f : ℕ → ℕ) (i : List ℕ) → length (on_axis k f i) ≡ length i
length-on_axis zero f [] = refl
length-on_axis (suc k) f [] = refl
length-on_axis zero f (n ∷ i) = refl
length-on_axis (suc k) f (n ∷ i) = ap suc (length-on_axis k f i)

pub get_or-on_axis : (k : ℕ) (f : ℕ → ℕ) (i : List ℕ) → k < length i → get_or (on_axis k f i) k 0 ≡ f (get_or i k 0)
get_or-on_axis k f [] h = absurd (omega arith)
get_or-on_axis zero f (n ∷ i) h = refl
get_or-on_axis (suc k) f (n ∷ i) h = get_or-on_axis k f i (omega arith)

pub without-on_axis : (k : ℕ) (f : ℕ → ℕ) (i : List ℕ) → without k (on_axis k f i) ≡ without k i
without-on_axis zero f [] = refl
without-on_axis (suc k) f [] = refl
without-on_axis zero f (n ∷ i) = refl
without-on_axis (suc k) f (n ∷ i) = ap (λ l. n ∷ l) (without-on_axis k f i)

-- ---- within a shape

pub length-within : (s i : List ℕ) → is_within s i ≡ true → length i ≡ length s
length-within [] [] w = refl
length-within [] (i ∷ is) w = absurd (cc)
length-within (n ∷ s) [] w = absurd (cc)
length-within (n ∷ s) (i ∷ is) w = ap suc (length-within s is (both (nat_lt i n) (is_within s is) w).1)

pub within-at : (s i : List ℕ) (k : ℕ) → is_within s i ≡ true → k < length s → get_or i k 0 < get_or s k 0
within-at [] i k w h = absurd (omega arith)
within-at (n ∷ s) [] k w h = absurd (cc)
within-at (n ∷ s) (i ∷ is) zero w h = within_head n i s is w
within-at (n ∷ s) (i ∷ is) (suc k) w h = within-at s is k (both (nat_lt i n) (is_within s is) w).1 (omega arith)

-- an index list with another index on an axis lies within the shape with another length there
pub within-on_axis : (k : ℕ) (m f : ℕ → ℕ) (s i : List ℕ) → is_within s i ≡ true → (k < length s → f (get_or i k 0) < m (get_or s k 0)) → is_within (on_axis k m s) (on_axis k f i) ≡ true
within-on_axis zero m f [] [] w h = refl
within-on_axis (suc k) m f [] [] w h = refl
within-on_axis k m f [] (i ∷ is) w h = absurd (cc)
within-on_axis k m f (n ∷ s) [] w h = absurd (cc)
within-on_axis zero m f (n ∷ s) (i ∷ is) w h = within_cons (m n) (f i) s is (h (omega arith)) (both (nat_lt i n) (is_within s is) w).1
within-on_axis (suc k) m f (n ∷ s) (i ∷ is) w h =
    within_cons n i (on_axis k m s) (on_axis k f is) (within_head n i s is w) (within-on_axis k m f s is (both (nat_lt i n) (is_within s is) w).1 (λ b. h (omega arith)))

-- the same, where the length stays
pub within-stays : (k : ℕ) (f : ℕ → ℕ) (s i : List ℕ) → is_within s i ≡ true → (k < length s → f (get_or i k 0) < get_or s k 0) → is_within s (on_axis k f i) ≡ true
within-stays k f s i w h = ap (λ t. is_within t (on_axis k f i)) (sym (on_axis-stays k (λ n. n) s (λ b. refl))) ∙ within-on_axis k (λ n. n) f s i w h

-- ---- another length on an axis

-- the shape with another length on an axis is one that differs from it there alone
pub on_axis-to : (k : ℕ) (f : ℕ → ℕ) (s t : List ℕ) → without k s ≡ without k t → length s ≡ length t → k < length s → f (get_or s k 0) ≡ get_or t k 0 → on_axis k f s ≡ t
on_axis-to k f [] t e l h g = absurd (omega arith)
on_axis-to k f (n ∷ s) [] e l h g = absurd (omega arith)
on_axis-to zero f (n ∷ s) (m ∷ t) e l h g = ap (λ x. x ∷ s) g ∙ ap (λ x. m ∷ x) e
on_axis-to (suc k) f (n ∷ s) (m ∷ t) e l h g =
    let first : n ≡ m = cc in
    let rest : without k s ≡ without k t = cc in
    ap (λ x. x ∷ on_axis k f s) first ∙ ap (λ x. m ∷ x) (on_axis-to k f s t rest (omega arith) (omega arith) g)

pub bound-on_axis : (k n : ℕ) (s : List ℕ) → n ≤ get_or s k 0 → bound_of (on_axis k (λ m. n) s) ≤ bound_of s
bound-on_axis zero n [] h = omega arith
bound-on_axis (suc k) n [] h = omega arith
bound-on_axis zero n (m ∷ s) h = mul-le-mul_right (bound_of s) (omega arith)
bound-on_axis (suc k) n (m ∷ s) h = mul-le-mul_left (max m 1) (bound-on_axis k n s h)

pub limited-by : (s : List ℕ) → length s ≤ 8 → bound_of s ≤ 1000000 → is_limited s ≡ true
limited-by s h g = rw (le-leb (length s) 8 h, le-leb (bound_of s) 1000000 g) refl

pub same-refl : (s : List ℕ) → same s s ≡ true
same-refl [] = refl
same-refl (n ∷ s) = rw (eq-eqb n n refl) (same-refl s)
