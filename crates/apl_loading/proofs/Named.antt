-- Functions that ascend by name, of which one is found by its name.
use Rattle.std.proofs.Common.{◌≡◌, ◌↔◌, ◌⊎◌, inl, inr, ℕ, zero, suc, add-one, ◌<◌, ◌≤◌, false, Contains, List, [], ◌∷◌, Result, Ok, Err, length, get_or, HoldsAt, refl, sym, ap, ◌∙◌, subst, arith}
use Rattle.std.specs.Prelude.{IsTrue}
use Rattle.std.specs.Result.{is_ok}
use Rattle.std.specs.List.Sorted.{IsBinarySearchResult, IsPartitionPoint, IsSearchInRange, IsSortedByKey}
use Rattle.std.specs.Ordering.{is_lt, ordering_reverse}
use Rattle.std.specs.declared.cmp.Ordering.TheVariants.{Less, Equal, Greater}
use Rattle.std.proofs.lemmas.Bool.{cases_lt}
use Rattle.std.proofs.lemmas.Cmp.{nat_list_cmp_total}
use Rattle.std.proofs.lemmas.List.Sorted.{searchable_from_sorted}
use Rattle.apl_defn.specs.Definitions.{Text}
use Rattle.apl_names.specs.Maps.{name_cmp}
use Rattle.apl_names.proofs.Texts.{equal, not_below, turned}
use Rattle.apl_parts.specs.Pieces.{Watched}
use Rattle.apl_saved.specs.Rules.{Ascend, function_names}
use Rattle.apl_loading.proofs.Lists.{contains_first, contains_later}
use Rattle.apl_loading.proofs.OneDefinition.{no_truth}

abbrev pub name_of : Watched → Text
name_of w = w.definition.header.name

rises : (fs : List Watched) (k : ℕ) (d : Watched) → Ascend (function_names fs) → suc k < length fs → is_lt (name_cmp (name_of (get_or fs (suc k) d)) (name_of (get_or fs k d))) ≡ false
rises [] k d h lt = absurd (omega (arith, lt))
rises (f ∷ []) k d h lt = absurd (omega (arith, lt))
rises (f ∷ g ∷ fs) zero d h lt = let o = nat_list_cmp_total in ap is_lt (o.antisymm (name_of g) (name_of f) ∙ ap ordering_reverse h.0)
rises (f ∷ g ∷ fs) (suc k) d h lt = rises (g ∷ fs) k d h.1 (omega (arith, lt))

sorted : (fs : List Watched) → Ascend (function_names fs) → IsSortedByKey name_of name_cmp fs
sorted fs h k d a b = subst (λ m. is_lt (name_cmp (name_of (get_or fs m d)) (name_of (get_or fs k d))) ≡ false) (sym (add-one k)) (rises fs k d h (omega (arith, b)))

found_at : (name : Text) (fs : List Watched) (i : ℕ) → i < length fs → HoldsAt (λ w. name_cmp (name_of w) name ≡ Equal) fs i → Contains (function_names fs) name
found_at name [] i lt e = absurd (omega (arith, lt))
found_at name (f ∷ fs) zero lt e = contains_first (name_of f) name (function_names fs) (equal (name_of f) name (e f))
found_at name (f ∷ fs) (suc i) lt e = contains_later (name_of f) name (function_names fs) (found_at name fs i (omega (arith, lt)) e)

not_found : (name : Text) (fs : List Watched) → ((k : ℕ) (d : Watched) → k < length fs → ¬ (name_of (get_or fs k d) ≡ name)) → ¬ Contains (function_names fs) name
not_found name [] other (k, lt, e) = absurd (omega (arith, lt))
not_found name (f ∷ fs) other (zero, lt, e) = other 0 f (omega arith) e
not_found name (f ∷ fs) other (suc k, lt, e) = not_found name fs (λ j d l. other (suc j) d (omega (arith, l))) (k, omega (arith, lt), e)

-- a binary search finds a name where the functions have it
pub searched : (name : Text) (fs : List Watched) (r : Result ℕ ℕ) → Ascend (function_names fs) → IsSearchInRange r (length fs) → IsBinarySearchResult (λ w. name_cmp (name_of w) name) fs r → IsTrue (is_ok r) ↔ Contains (function_names fs) name
searched name fs (Ok i) h lt at = (λ t. found_at name fs i lt at, λ c. refl)
searched name fs (Err i) h le r = (λ t. absurd (no_truth t), λ c. absurd (not_found name fs other c))
  where
    parts : IsPartitionPoint (λ w. name_cmp (name_of w) name ≡ Less) (λ w. name_cmp (name_of w) name ≡ Greater) fs i
    parts = r (searchable_from_sorted nat_list_cmp_total name_of fs name (sorted fs h))

    other : (k : ℕ) (d : Watched) → k < length fs → ¬ (name_of (get_or fs k d) ≡ name)
    other k d lt e = by (cases_lt k i)
      where
        by : (k < i) ⊎ (i ≤ k) → ⊥
        by (inl below) = not_below name (subst (λ (n : Text). name_cmp n name ≡ Less) e (parts.0 k d (omega arith) below))
        by (inr above) = not_below name (subst (λ (n : Text). name_cmp name n ≡ Less) e (turned (name_of (get_or fs k d)) name (parts.1 k d above lt)))
