-- Entries whose values are shown by a function: what a look-up finds there, and what a change leaves.
use Rattle.std.proofs.Common.{◌≡◌, Bool, true, false, cond, List, [], ◌∷◌, Option, Some, refl, sym, ap, map, Ordering, ℕ}
use Rattle.std.specs.BTreeMap.{insert_entry, is_at}
use Rattle.std.specs.Cmp.Lexicographic.{slice_cmp}
use Rattle.std.specs.List.{All}
use Rattle.std.specs.Map.{lookup, remove_entry}
use Rattle.std.specs.Option.{option_map}
use Rattle.std.specs.Ordering.{match_ordering, nat_cmp}
use Rattle.std.specs.declared.cmp.Ordering.TheVariants.{Less, Equal, Greater}
use Rattle.std.specs.Str.{bytes_eq}
use Rattle.std.proofs.lemmas.Map.Text.{is_eq-slice_cmp}
use Rattle.std.proofs.lemmas.List.Elements.{All-nil, All-cons, All-head, All-tail}

-- the entries with their values shown
abbrev pub shown : {K X Y : Type 0} → (X → Y) → List (K × X) → List (K × Y)
shown f es = map (λ e. (e.0, f e.1)) es

module _ {K X Y : Type 0} (f : X → Y) (t u : K → Bool) (same : (k : K) → t k ≡ u k) where
  looked : (a b : Bool) (v : X) (found : Option Y) (rest : Option X) → a ≡ b → found ≡ option_map f rest → cond a (Some (f v)) found ≡ option_map f (cond b (Some v) rest)
  looked true true v found rest s h = refl
  looked false false v found rest s h = h
  looked true false v found rest s h = absurd cc
  looked false true v found rest s h = absurd cc

  pub lookup-shown : (es : List (K × X)) → lookup t (shown f es) ≡ option_map f (lookup u es)
  lookup-shown [] = refl
  lookup-shown (e ∷ es) = looked (t e.0) (u e.0) e.1 _ _ (same e.0) (lookup-shown es)

  removed : (a b : Bool) (e : K × X) (es rest : List (K × X)) (left : List (K × Y)) → a ≡ b → left ≡ shown f rest → cond a (shown f es) ((e.0, f e.1) ∷ left) ≡ shown f (cond b es (e ∷ rest))
  removed true true e es rest left s h = refl
  removed false false e es rest left s h = ap (λ (l : List (K × Y)). (e.0, f e.1) ∷ l) h
  removed true false e es rest left s h = absurd cc
  removed false true e es rest left s h = absurd cc

  pub remove-shown : (es : List (K × X)) → remove_entry t (shown f es) ≡ shown f (remove_entry u es)
  remove-shown [] = refl
  remove-shown (e ∷ es) = removed (t e.0) (u e.0) e es _ _ (same e.0) (remove-shown es)

module _ {K X Y : Type 0} (f : X → Y) (cmp : K → K → Ordering) (k : K) (v : X) where
  inserted : (r : Ordering) (e : K × X) (es rest : List (K × X)) (left : List (K × Y)) → left ≡ shown f rest
      → match_ordering r ((k, f v) ∷ shown f (e ∷ es)) ((e.0, f v) ∷ shown f es) ((e.0, f e.1) ∷ left) ≡ shown f (match_ordering r ((k, v) ∷ e ∷ es) ((e.0, v) ∷ es) (e ∷ rest))
  inserted Less e es rest left h = refl
  inserted Equal e es rest left h = refl
  inserted Greater e es rest left h = ap (λ (l : List (K × Y)). (e.0, f e.1) ∷ l) h

  pub insert-shown : (es : List (K × X)) → insert_entry cmp (shown f es) k (f v) ≡ shown f (insert_entry cmp es k v)
  insert-shown [] = refl
  insert-shown (e ∷ es) = inserted (cmp k e.0) e es _ _ (insert-shown es)

-- what holds of each value still does after a change
module _ {K X : Type 0} (P : X → Type 0) where
  pub All-remove_entry : (test : K → Bool) (es : List (K × X)) → All (λ e. P e.1) es → All (λ e. P e.1) (remove_entry test es)
  All-remove_entry test [] a = a
  All-remove_entry test (e ∷ es) a = by (test e.0) (All-remove_entry test es (All-tail (λ x. P x.1) e es a))
    where
      by : (b : Bool) → All (λ x. P x.1) (remove_entry test es) → All (λ x. P x.1) (cond b es (e ∷ remove_entry test es))
      by true h = All-tail (λ x. P x.1) e es a
      by false h = All-cons (λ x. P x.1) e (remove_entry test es) (All-head (λ x. P x.1) e es a) h

  pub All-insert_entry : (cmp : K → K → Ordering) (k : K) (v : X) (es : List (K × X)) → All (λ e. P e.1) es → P v → All (λ e. P e.1) (insert_entry cmp es k v)
  All-insert_entry cmp k v [] a p = All-cons (λ x. P x.1) (k, v) [] p (All-nil (λ x. P x.1))
  All-insert_entry cmp k v (e ∷ es) a p = by (cmp k e.0) (All-insert_entry cmp k v es (All-tail (λ x. P x.1) e es a) p)
    where
      by : (r : Ordering) → All (λ x. P x.1) (insert_entry cmp es k v) → All (λ x. P x.1) (match_ordering r ((k, v) ∷ e ∷ es) ((e.0, v) ∷ es) (e ∷ insert_entry cmp es k v))
      by Less h = All-cons (λ x. P x.1) (k, v) (e ∷ es) p a
      by Equal h = All-cons (λ x. P x.1) (e.0, v) es p (All-tail (λ x. P x.1) e es a)
      by Greater h = All-cons (λ x. P x.1) e (insert_entry cmp es k v) (All-head (λ x. P x.1) e es a) h

-- names that are equal are those that the order doesn't tell apart
pub same_name : (name : List ℕ) (k : List ℕ) → bytes_eq name k ≡ is_at (slice_cmp nat_cmp name) k
same_name name k = sym (is_eq-slice_cmp name k)
