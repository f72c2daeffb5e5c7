-- The names of the global scope, as the slots give them from the last on.
use Rattle.std.proofs.Common.{◌≡◌, ℕ, zero, suc, ◌-◌, ◌<◌, ◌≤◌, Bool, false, ◌||◌, List, [], ◌∷◌, length, drop, get_or, All, Some, None, refl, sym, ap, subst, ◌∙◌, arith}
use Rattle.std.proofs.Math.Seq.{drop-cons}
use Rattle.std.specs.Prelude.{option_map, unwrap_or}
use Rattle.std.specs.Global.{Vec}
use Rattle.std.specs.declared.cmp.Ordering.{Ordering}
use Rattle.std.specs.declared.cmp.Ordering.TheVariants.{Less, Equal, Greater}
use Rattle.std.specs.Ordering.{match_ordering}
use Rattle.std.specs.BTreeMap.{insert_entry}
use Rattle.std.specs.Str.{bytes_eq}
use Rattle.std.specs.Map.{keys_of}
use Rattle.apl_names.specs.declared.binding.Binding.{Binding}
use Rattle.apl_names.specs.declared.slots.SlotContent.{SlotContent}
use Rattle.apl_names.specs.Maps.{IsMap, Text, Map, name_cmp, said, with_entry, last_map, is_function, kinds_in}
use Rattle.apl_names.specs.Slots.{Content, Contents, Scope, scope_of, name_at, named, has, hidden_of, AreWithin, held_of, maps_of, with_held, listed}
use Rattle.apl_names.proofs.Maps.{AreMaps, Holds, same_map, listed_map, said_listed, whole, neither}
use Rattle.apl_names.proofs.GlobalSlots.{none_hidden}
use Rattle.apl_names.proofs.Beneath.{global_says, seen_beneath}
use Rattle.apl_names.proofs.Symbols.{length-keys_of}
use Rattle.apl_names.proofs.Whole.{holds_here, its_scopes}

-- a name comes to the kinds as it comes to the map
kinds_with : (n : Text) (b : Binding) (m : Map) → insert_entry name_cmp (kinds_in m) n (is_function b) ≡ kinds_in (with_entry n b m)
kinds_with n b [] = refl
kinds_with n b (e ∷ es) = by (name_cmp n e.0) (kinds_with n b es)
  where
    by : (o : Ordering) → insert_entry name_cmp (kinds_in es) n (is_function b) ≡ kinds_in (with_entry n b es)
        → match_ordering o ((n, is_function b) ∷ kinds_in (e ∷ es)) ((e.0, is_function b) ∷ kinds_in es) ((e.0, is_function e.1) ∷ insert_entry name_cmp (kinds_in es) n (is_function b))
        ≡ kinds_in (match_ordering o ((n, b) ∷ e ∷ es) ((e.0, b) ∷ es) (e ∷ with_entry n b es))
    by Less h = refl
    by Equal h = refl
    by Greater h = ap (λ (l : List (Text × Bool)). (e.0, is_function e.1) ∷ l) h

-- what is borrowed of an entry
lent_some : (n x : Text) (b : Binding) (o : Content) → Some (x, b) ≡ option_map {U = Text × Binding} (λ b. (n, b)) o → (x ≡ n) × (o ≡ Some b)
lent_some n x b None h = absurd cc
lent_some n x b (Some c) h =
    let name : x ≡ n = ap (λ o. (unwrap_or {T = Text × Binding} o (x, b)).0) h in
    let binding : c ≡ b = sym (ap (λ o. (unwrap_or {T = Text × Binding} o (x, b)).1) h) in
    (name, ap (λ (y : Binding). Some y) binding)

-- one slot more
one_more : (ks : List Text) (s : Scope) (i : ℕ) → 0 < i → i ≤ length ks → listed (drop (i - 1) ks) s ≡ with_held (name_at ks (i - 1)) (s (name_at ks (i - 1))) (listed (drop i ks) s)
one_more ks s i some le =
    let e : suc (i - 1) ≡ i = omega arith in
    ap (λ (l : List Text). listed l s) (drop-cons ks (i - 1) [] (omega arith) ∙ ap (λ (k : ℕ). name_at ks (i - 1) ∷ drop k ks) e)

-- the slot before is added, where the global scope has its name, and its name is borrowed as x with b
pub one_added : (ks : List Text) (s : Scope) (i : ℕ) → 0 < i → i ≤ length ks → (es : List (Text × Bool)) → es ≡ kinds_in (listed (drop i ks) s)
    → (x : Text) (b : Binding) → Some (x, b) ≡ option_map {U = Text × Binding} (λ b. (name_at ks (i - 1), b)) (s (name_at ks (i - 1)))
    → insert_entry name_cmp es x (is_function b) ≡ kinds_in (listed (drop (i - 1) ks) s)
one_added ks s i some le es so_far x b borrowed =
    let n = name_at ks (i - 1) in
    let is = lent_some n x b (s n) borrowed in
    ap (λ (l : List (Text × Bool)). insert_entry name_cmp l x (is_function b)) so_far
    ∙ ap (λ (y : Text). insert_entry name_cmp (kinds_in (listed (drop i ks) s)) y (is_function b)) is.0
    ∙ kinds_with n b (listed (drop i ks) s)
    ∙ ap (λ (o : Content). kinds_in (with_held n o (listed (drop i ks) s))) (sym is.1)
    ∙ ap kinds_in (sym (one_more ks s i some le))

-- ---- the slots have all names of the global map

not_at : (ks : List Text) (i : ℕ) (q : Text) → i < length ks → has ks q ≡ false → bytes_eq (name_at ks i) q ≡ false
not_at [] i q lt h = absurd (omega arith)
not_at (k ∷ ks) zero q lt h = (neither (bytes_eq k q) (has ks q) h).0
not_at (k ∷ ks) (suc i) q lt h = not_at ks i q (omega arith) (neither (bytes_eq k q) (has ks q) h).1

not_named : (ks : List Text) (q : Text) (f : List SlotContent) → has ks q ≡ false → All (λ s. s.slot < length ks) f → has (keys_of (named ks f)) q ≡ false
not_named ks q [] h below = refl
not_named ks q (s ∷ f) h below =
    ap (λ b. b || has (keys_of (named ks f)) q) (not_at ks s.slot q (below 0 s (omega arith)) h) ∙ not_named ks q f h (λ k d lt. below (suc k) d (omega arith))

last_is_map : (ms : List Map) → AreMaps ms → IsMap (last_map ms)
last_is_map [] h = tt
last_is_map (m ∷ []) h = h.0
last_is_map (m ∷ k ∷ ms) h = last_is_map (k ∷ ms) h.1

module _ (es : Contents) (fs : List (Vec SlotContent)) (within : AreWithin (length es) fs) where
  abbrev ks : List Text
  ks = keys_of es

  abbrev global : Map
  global = last_map (maps_of (held_of es fs))

  within_ks : AreWithin (length ks) fs
  within_ks = subst (λ (n : ℕ). AreWithin n fs) (sym (length-keys_of es)) within

  none_else : Holds ks (said global)
  none_else q h =
      global_says (hidden_of ks fs) (scope_of es) ks q (holds_here es)
      ∙ seen_beneath q (hidden_of ks fs) (scope_of es) (none_hidden ks q fs (λ i d lt. not_named ks q (get_or fs i d).items h (within_ks i d lt)))
      ∙ holds_here es q h

  -- the global map is what its slots list
  pub all_listed : listed ks (said global) ≡ global
  all_listed =
      same_map (listed ks (said global)) global (listed_map ks (said global)) (last_is_map (maps_of (held_of es fs)) (its_scopes (held_of es fs)).1)
      (λ q. said_listed ks (said global) q ∙ whole ks (said global) q none_else)
