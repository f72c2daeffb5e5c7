-- The global scope, as a function or an erased name changes it.
use Rattle.std.proofs.Common.{◌≡◌, Bool, true, false, cond, List, [], ◌∷◌, ◌++◌, map, Some, None, refl, sym, ap, subst, ◌∙◌, true≢false}
use Rattle.std.specs.Prelude.{is_some}
use Rattle.std.specs.Str.{bytes_eq}
use Rattle.std.specs.Map.{keys_of}
use Rattle.apl_names.specs.declared.binding.Binding.{Binding}
use Rattle.apl_names.specs.Maps.{IsMap, IsAbove, Text, Map, said, without_entry, with_global, without_global}
use Rattle.apl_names.specs.Slots.{Content, Contents, Scope, updated, has, within, laid, last_updated, scopes, AreHeld}
use Rattle.apl_names.proofs.Texts.{same, flip, chain}
use Rattle.apl_names.proofs.Maps.{same_scopes, said_with, with_map, none_above, AreMaps}
use Rattle.apl_names.proofs.Stacks.{past_frame, within_elsewhere}

-- no scope hides n
abbrev pub NoneHas : Text → List Contents → Type 0
NoneHas n [] = Unit {0}
NoneHas n (f ∷ fs) = (has (keys_of f) n ≡ false) × NoneHas n fs

-- what `scopes` gives is never empty
last_below : (m : Scope) (ms : List Scope) (fs : List Contents) (s : Scope) (n : Text) (c : Content) → ms ≡ scopes s fs → last_updated n c (m ∷ ms) ≡ m ∷ last_updated n c ms
last_below m [] [] s n c e = absurd cc
last_below m [] (f ∷ fs) s n c e = absurd cc
last_below m (k ∷ ms) fs s n c e = refl

module _ (n : Text) (c : Content) where
  -- the slot itself is the global one's
  pub unhidden : (fs : List Contents) (s : Scope) → NoneHas n fs → scopes (updated s n c) fs ≡ last_updated n c (scopes s fs)
  unhidden [] s h = refl
  unhidden (f ∷ fs) s h =
      let moved : laid (updated s n c) f ≡ updated (laid s f) n c = same_scopes _ _ (λ q. past_frame s n c f q h.0) in
      ap (λ (m : Scope). m ∷ scopes (laid (updated s n c) f) fs) (within_elsewhere s n c (keys_of f) h.0)
      ∙ ap (λ (t : Scope). within (keys_of f) s ∷ scopes t fs) moved
      ∙ ap (λ (ms : List Scope). within (keys_of f) s ∷ ms) (unhidden fs (laid s f) h.1)
      ∙ sym (last_below (within (keys_of f) s) (scopes (laid s f) fs) fs (laid s f) n c refl)

  other_held : (s : Scope) (f : Contents) (q : Text) → has (keys_of f) n ≡ false → has (keys_of f) q ≡ true → is_some (s q) ≡ true → is_some (updated s n c q) ≡ true
  other_held s f q absent present held = by (bytes_eq n q) refl
    where
      by : (d : Bool) → bytes_eq n q ≡ d → is_some (cond d c (s q)) ≡ true
      by true e = absurd (true≢false (sym present ∙ subst (λ (x : Text). has (keys_of f) x ≡ false) (same n q e) absent))
      by false e = held

  pub unhidden_held : (fs : List Contents) (s : Scope) → NoneHas n fs → AreHeld s fs → AreHeld (updated s n c) fs
  unhidden_held [] s h held = tt
  unhidden_held (f ∷ fs) s h held = (
    λ q e. other_held s f q h.0 e (held.0 q e),
    subst (λ (t : Scope). AreHeld t fs) (sym (same_scopes _ _ (λ q. past_frame s n c f q h.0))) (unhidden_held fs (laid s f) h.1 held.1),
  )

  -- the scope f hides it, and g is f with c there
  module _ (f g : Contents) (names : keys_of g ≡ keys_of f) (given : (s : Scope) → laid s g ≡ updated (laid s f) n c) (older : List Contents) (none : NoneHas n older) where
    pub hidden : (newer : List Contents) (s : Scope) → scopes s (newer ++ g ∷ older) ≡ last_updated n c (scopes s (newer ++ f ∷ older))
    hidden [] s =
        ap (λ (l : List Text). within l s ∷ scopes (laid s g) older) names
        ∙ ap (λ (t : Scope). within (keys_of f) s ∷ scopes t older) (given s)
        ∙ ap (λ (ms : List Scope). within (keys_of f) s ∷ ms) (unhidden older (laid s f) none)
        ∙ sym (last_below (within (keys_of f) s) (scopes (laid s f) older) older (laid s f) n c refl)
    hidden (k ∷ newer) s =
        ap (λ (ms : List Scope). within (keys_of k) s ∷ ms) (hidden newer (laid s k))
        ∙ sym (last_below (within (keys_of k) s) (scopes (laid s k) (newer ++ f ∷ older)) (newer ++ f ∷ older) (laid s k) n c refl)

    pub hidden_held : (newer : List Contents) (s : Scope) → AreHeld s (newer ++ f ∷ older) → AreHeld s (newer ++ g ∷ older)
    hidden_held [] s h = (
      λ q e. h.0 q (subst (λ (l : List Text). has l q ≡ true) names e),
      subst (λ (t : Scope). AreHeld t older) (sym (given s)) (unhidden_held older (laid s f) none h.1),
    )
    hidden_held (k ∷ newer) s h = (h.0, hidden_held newer (laid s k) h.1)

-- ---- by the maps

pub said_without : (n : Text) (m : Map) → IsMap m → (q : Text) → said (without_entry n m) q ≡ updated (said m) n None q
said_without n [] h q = by (bytes_eq n q)
  where
    by : (d : Bool) → said [] q ≡ cond d None (said [] q)
    by true = refl
    by false = refl
said_without n (e ∷ es) h q = by (bytes_eq n e.0) refl (said_without n es (lower e es h) q)
  where
    lower : (e : Text × Binding) (es : Map) → IsAbove e.0 es → IsMap es
    lower e [] h = tt
    lower e (d ∷ ds) h = h.1

    gone : (c d : Bool) → bytes_eq q e.0 ≡ c → bytes_eq n q ≡ d → n ≡ e.0 → said es q ≡ cond d None (cond c (Some e.1) (said es q))
    gone true true x y p = subst (λ (x : Text). said es x ≡ None) (sym (same q e.0 x)) (none_above e.0 es h)
    gone false false x y p = refl
    gone true false x y p = absurd (true≢false (sym x ∙ flip q e.0 ∙ subst (λ (k : Text). bytes_eq k q ≡ false) p y))
    gone false true x y p = subst (λ (x : Text). said es x ≡ None) (sym p ∙ same n q y) (none_above e.0 es h)

    stays : (c d : Bool) → bytes_eq q e.0 ≡ c → bytes_eq n q ≡ d → bytes_eq n e.0 ≡ false → cond c (Some e.1) (cond d None (said es q)) ≡ cond d None (cond c (Some e.1) (said es q))
    stays true true x y o = absurd (true≢false (sym y ∙ subst (λ (k : Text). bytes_eq n k ≡ false) (sym (same q e.0 x)) o))
    stays true false x y o = refl
    stays false d x y o = refl

    by : (c : Bool) → bytes_eq n e.0 ≡ c → said (without_entry n es) q ≡ updated (said es) n None q → said (cond c es (e ∷ without_entry n es)) q ≡ updated (said (e ∷ es)) n None q
    by true x r = gone (bytes_eq q e.0) (bytes_eq n q) refl refl (same n e.0 x)
    by false x r = ap (λ v. cond (bytes_eq q e.0) (Some e.1) v) r ∙ stays (bytes_eq q e.0) (bytes_eq n q) refl refl x

without_above : (l n : Text) (m : Map) → IsAbove l m → IsAbove l (without_entry n m)
without_above l n [] h = tt
without_above l n (e ∷ es) h = by (bytes_eq n e.0) (without_above e.0 n es h.1)
  where
    raise : (es : Map) → IsAbove e.0 es → IsAbove l es
    raise [] g = tt
    raise (d ∷ ds) g = (chain l e.0 d.0 h.0 g.0, g.1)

    by : (c : Bool) → IsAbove e.0 (without_entry n es) → IsAbove l (cond c es (e ∷ without_entry n es))
    by true r = raise es h.1
    by false r = (h.0, r)

pub without_map : (n : Text) (m : Map) → IsMap m → IsMap (without_entry n m)
without_map n [] h = tt
without_map n (e ∷ es) h = by (bytes_eq n e.0)
  where
    below : (es : Map) → IsAbove e.0 es → IsMap es
    below [] g = tt
    below (d ∷ ds) g = g.1

    by : (c : Bool) → IsMap (cond c es (e ∷ without_entry n es))
    by true = below es h
    by false = without_above e.0 n es h

pub with_global_map : (ms : List Map) (n : Text) (b : Binding) → last_updated n (Some b) (map said ms) ≡ map said (with_global n b ms)
with_global_map [] n b = refl
with_global_map (m ∷ []) n b = ap (λ (t : Scope). t ∷ []) (same_scopes _ _ (λ q. sym (said_with n b m q)))
with_global_map (m ∷ k ∷ ms) n b = ap (λ (ts : List Scope). said m ∷ ts) (with_global_map (k ∷ ms) n b)

pub with_global_maps : (ms : List Map) (n : Text) (b : Binding) → AreMaps ms → AreMaps (with_global n b ms)
with_global_maps [] n b h = tt
with_global_maps (m ∷ []) n b h = (with_map n b m h.0, tt)
with_global_maps (m ∷ k ∷ ms) n b h = (h.0, with_global_maps (k ∷ ms) n b h.1)

pub without_global_map : (ms : List Map) (n : Text) → AreMaps ms → last_updated n None (map said ms) ≡ map said (without_global n ms)
without_global_map [] n h = refl
without_global_map (m ∷ []) n h = ap (λ (t : Scope). t ∷ []) (same_scopes _ _ (λ q. sym (said_without n m h.0 q)))
without_global_map (m ∷ k ∷ ms) n h = ap (λ (ts : List Scope). said m ∷ ts) (without_global_map (k ∷ ms) n h.1)

pub without_global_maps : (ms : List Map) (n : Text) → AreMaps ms → AreMaps (without_global n ms)
without_global_maps [] n h = tt
without_global_maps (m ∷ []) n h = (without_map n m h.0, tt)
without_global_maps (m ∷ k ∷ ms) n h = (h.0, without_global_maps (k ∷ ms) n h.1)
