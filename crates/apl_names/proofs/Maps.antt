-- Two maps that say the same of each name are the same.
use Rattle.std.proofs.Common.{◌≡◌, Bool, true, false, cond, ◌||◌, List, [], ◌∷◌, ◌++◌, Some, None, refl, sym, ap, subst, map, ◌∙◌, true≢false}
use Rattle.std.specs.Prelude.{is_some, unwrap_or}
use Rattle.std.specs.declared.cmp.Ordering.{Ordering}
use Rattle.std.specs.declared.cmp.Ordering.TheVariants.{Less, Equal, Greater}
use Rattle.std.specs.Ordering.{match_ordering}
use Rattle.std.specs.Str.{bytes_eq}
use Rattle.std.specs.Map.{keys_of}
use Rattle.apl_names.specs.declared.binding.Binding.{Binding}
use Rattle.apl_names.specs.Maps.{IsAbove, IsMap, Text, Map, name_cmp, said, with_entry}
use Rattle.apl_names.specs.Slots.{Content, Contents, Scope, updated, has, within, laid, scopes, with_held, listed, maps_from}
use Rattle.apl_names.proofs.Texts.{same, itself, flip, equal, not_below, apart, chain, turned}

abbrev pub AreMaps : List Map → Type 0
AreMaps [] = Unit {0}
AreMaps (m ∷ ms) = IsMap m × AreMaps ms

pub same_scopes : (s t : Scope) → ((q : Text) → s q ≡ t q) → s ≡ t
same_scopes s t h = λ j q. h q j

pub lower : (l n : Text) (m : Map) → name_cmp l n ≡ Less → IsAbove n m → IsAbove l m
lower l n [] lt h = tt
lower l n (e ∷ es) lt h = (chain l n e.0 lt h.0, h.1)

pub none_above : (n : Text) (m : Map) → IsAbove n m → said m n ≡ None
none_above n [] h = refl
none_above n (e ∷ es) h = ap (λ c. cond c (Some e.1) (said es n)) (apart n e.0 h.0) ∙ none_above n es (lower n e.0 es h.0 h.1)

at_name : (e : Text × Binding) (es : Map) → said (e ∷ es) e.0 ≡ Some e.1
at_name e es = ap (λ c. cond c (Some e.1) (said es e.0)) (itself e.0)

some_none : (b : Binding) → Some b ≡ None → ⊥
some_none b e = true≢false (ap is_some e)

some_same : (a b : Binding) → Some a ≡ Some b → a ≡ b
some_same a b e = ap (λ o. unwrap_or o a) e

above_is_map : (n : Text) (m : Map) → IsAbove n m → IsMap m
above_is_map n [] h = tt
above_is_map n (e ∷ es) h = h.1

tails : (e d : Text × Binding) (es ds : Map) → IsAbove e.0 es → IsAbove d.0 ds → e.0 ≡ d.0 → ((q : Text) → said (e ∷ es) q ≡ said (d ∷ ds) q) → (q : Text) → said es q ≡ said ds q
tails e d es ds h k p f q = by (bytes_eq q e.0) refl
  where
    by : (c : Bool) → bytes_eq q e.0 ≡ c → said es q ≡ said ds q
    by true t =
        let a : q ≡ e.0 = same q e.0 t in
        subst (λ (x : Text). said es x ≡ said ds x) (sym a) (none_above e.0 es h ∙ sym (subst (λ (x : Text). said ds x ≡ None) (sym p) (none_above d.0 ds k)))
    by false t =
        let t2 : bytes_eq q d.0 ≡ false = subst (λ (n : Text). bytes_eq q n ≡ false) p t in
        sym (ap (λ c. cond c (Some e.1) (said es q)) t) ∙ f q ∙ ap (λ c. cond c (Some d.1) (said ds q)) t2

pub same_map : (l m : Map) → IsMap l → IsMap m → ((q : Text) → said l q ≡ said m q) → l ≡ m
same_map [] [] h k f = refl
same_map [] (d ∷ ds) h k f = absurd (some_none d.1 (sym (at_name d ds) ∙ sym (f d.0)))
same_map (e ∷ es) [] h k f = absurd (some_none e.1 (sym (at_name e es) ∙ f e.0))
same_map (e ∷ es) (d ∷ ds) h k f = by (name_cmp e.0 d.0) refl (λ p. same_map es ds (above_is_map e.0 es h) (above_is_map d.0 ds k) (tails e d es ds h k p f))
  where
    by : (o : Ordering) → name_cmp e.0 d.0 ≡ o → (e.0 ≡ d.0 → es ≡ ds) → e ∷ es ≡ d ∷ ds
    by Less o rest = absurd (some_none e.1 (sym (at_name e es) ∙ f e.0 ∙ none_above e.0 (d ∷ ds) (o, k)))
    by Greater o rest = absurd (some_none d.1 (sym (at_name d ds) ∙ sym (f d.0) ∙ none_above d.0 (e ∷ es) (turned e.0 d.0 o, h)))
    by Equal o rest =
        let p : e.0 ≡ d.0 = equal e.0 d.0 o in
        let values : e.1 ≡ d.1 = some_same e.1 d.1 (sym (at_name e es) ∙ f e.0 ∙ ap (said (d ∷ ds)) p ∙ at_name d ds) in
        ap (λ (n : Text). (n, e.1) ∷ es) p ∙ ap (λ (b : Binding). (d.0, b) ∷ es) values ∙ ap (λ (l : Map). d ∷ l) (rest p)

-- what a map says after an entry is put
pub said_with : (n : Text) (b : Binding) (m : Map) (q : Text) → said (with_entry n b m) q ≡ updated (said m) n (Some b) q
said_with n b [] q = ap (λ c. cond c (Some b) None) (flip q n)
said_with n b (e ∷ es) q = by (name_cmp n e.0) refl (said_with n b es q)
  where
    prefix : said ((n, b) ∷ e ∷ es) q ≡ updated (said (e ∷ es)) n (Some b) q
    prefix = ap (λ c. cond c (Some b) (said (e ∷ es) q)) (flip q n)

    replaced : (c d : Bool) → bytes_eq q e.0 ≡ c → bytes_eq n q ≡ d → n ≡ e.0 → cond c (Some b) (said es q) ≡ cond d (Some b) (cond c (Some e.1) (said es q))
    replaced true true x y p = refl
    replaced false false x y p = refl
    replaced true false x y p = absurd (true≢false (sym x ∙ flip q e.0 ∙ subst (λ (k : Text). bytes_eq k q ≡ false) p y))
    replaced false true x y p = absurd (true≢false (sym y ∙ subst (λ (k : Text). bytes_eq k q ≡ false) (sym p) (flip e.0 q ∙ x)))

    past : (c d : Bool) → bytes_eq q e.0 ≡ c → bytes_eq n q ≡ d → name_cmp n e.0 ≡ Greater → cond c (Some e.1) (cond d (Some b) (said es q)) ≡ cond d (Some b) (cond c (Some e.1) (said es q))
    past true true x y o = absurd (not_below e.0 (subst (λ (k : Text). name_cmp e.0 k ≡ Less) (same n q y ∙ same q e.0 x) (turned n e.0 o)))
    past true false x y o = refl
    past false d x y o = refl

    by : (o : Ordering) → name_cmp n e.0 ≡ o → said (with_entry n b es) q ≡ updated (said es) n (Some b) q → said (match_ordering o ((n, b) ∷ e ∷ es) ((e.0, b) ∷ es) (e ∷ with_entry n b es)) q ≡ updated (said (e ∷ es)) n (Some b) q
    by Less o h = prefix
    by Equal o h = replaced (bytes_eq q e.0) (bytes_eq n q) refl refl (equal n e.0 o)
    by Greater o h = ap (λ v. cond (bytes_eq q e.0) (Some e.1) v) h ∙ past (bytes_eq q e.0) (bytes_eq n q) refl refl o

with_above : (l n : Text) (b : Binding) (m : Map) → name_cmp l n ≡ Less → IsAbove l m → IsAbove l (with_entry n b m)
with_above l n b [] lt h = (lt, tt)
with_above l n b (e ∷ es) lt h = by (name_cmp n e.0) refl (λ g. with_above e.0 n b es g h.1)
  where
    by : (o : Ordering) → name_cmp n e.0 ≡ o → (name_cmp e.0 n ≡ Less → IsAbove e.0 (with_entry n b es)) → IsAbove l (match_ordering o ((n, b) ∷ e ∷ es) ((e.0, b) ∷ es) (e ∷ with_entry n b es))
    by Less o rest = (lt, (o, h.1))
    by Equal o rest = (h.0, h.1)
    by Greater o rest = (h.0, rest (turned n e.0 o))

pub with_map : (n : Text) (b : Binding) (m : Map) → IsMap m → IsMap (with_entry n b m)
with_map n b [] h = tt
with_map n b (e ∷ es) h = by (name_cmp n e.0) refl
  where
    by : (o : Ordering) → name_cmp n e.0 ≡ o → IsMap (match_ordering o ((n, b) ∷ e ∷ es) ((e.0, b) ∷ es) (e ∷ with_entry n b es))
    by Less o = (o, h)
    by Equal o = h
    by Greater o = with_above e.0 n b es (turned n e.0 o) h

pub listed_map : (ks : List Text) (s : Scope) → IsMap (listed ks s)
listed_map [] s = tt
listed_map (k ∷ ks) s = by (s k) (listed_map ks s)
  where
    by : (c : Content) → IsMap (listed ks s) → IsMap (with_held k c (listed ks s))
    by None h = h
    by (Some b) h = with_map k b (listed ks s) h

-- what a listed map says
pub said_listed : (ks : List Text) (s : Scope) (q : Text) → said (listed ks s) q ≡ within ks s q
said_listed [] s q = refl
said_listed (k ∷ ks) s q = by (s k) refl (said_listed ks s q)
  where
    here : (c d : Bool) → bytes_eq k q ≡ c → (b : Content) → s k ≡ b → cond c b (cond d (s q) None) ≡ cond (c || d) (s q) None
    here true d e b is = sym is ∙ ap s (same k q e)
    here false d e b is = refl

    gone : (c d : Bool) → bytes_eq k q ≡ c → s k ≡ None → cond d (s q) None ≡ cond (c || d) (s q) None
    gone true true e a = refl
    gone true false e a = sym (ap s (sym (same k q e)) ∙ a)
    gone false d e a = refl

    by : (c : Content) → s k ≡ c → said (listed ks s) q ≡ within ks s q → said (with_held k c (listed ks s)) q ≡ within (k ∷ ks) s q
    by None e h = h ∙ gone (bytes_eq k q) (has ks q) refl e
    by (Some b) e h = said_with k b (listed ks s) q ∙ ap (λ v. cond (bytes_eq k q) (Some b) v) h ∙ here (bytes_eq k q) (has ks q) refl (Some b) e

-- a scope that holds nothing but at these names
abbrev pub Holds : List Text → Scope → Type 0
Holds ks s = (q : Text) → has ks q ≡ false → s q ≡ None

pub whole : (ks : List Text) (s : Scope) (q : Text) → Holds ks s → within ks s q ≡ s q
whole ks s q h = by (has ks q) refl
  where
    by : (c : Bool) → has ks q ≡ c → cond c (s q) None ≡ s q
    by true e = refl
    by false e = sym (h q e)

pub either : (ks js : List Text) (q : Text) → has (ks ++ js) q ≡ (has ks q || has js q)
either [] js q = refl
either (k ∷ ks) js q = by (bytes_eq k q) (either ks js q)
  where
    by : (c : Bool) → has (ks ++ js) q ≡ (has ks q || has js q) → (c || has (ks ++ js) q) ≡ ((c || has ks q) || has js q)
    by true h = refl
    by false h = h

pub neither : (c d : Bool) → (c || d) ≡ false → (c ≡ false) × (d ≡ false)
neither true d h = absurd (true≢false h)
neither false d h = (refl, h)

pub not_hidden : (f : Contents) (s : Scope) (q : Text) → has (keys_of f) q ≡ false → laid s f q ≡ s q
not_hidden [] s q h = refl
not_hidden (e ∷ f) s q h = let n = neither (bytes_eq e.0 q) (has (keys_of f) q) h in ap (λ c. cond c e.1 (laid s f q)) n.0 ∙ not_hidden f s q n.1

pub holds_laid : (ks : List Text) (s : Scope) (f : Contents) → Holds ks s → Holds (ks ++ keys_of f) (laid s f)
holds_laid ks s f h q e = let n = neither (has ks q) (has (keys_of f) q) (sym (either ks (keys_of f) q) ∙ e) in not_hidden f s q n.1 ∙ h q n.0

pub heads : (s t : Scope) (ss ts : List Scope) → s ∷ ss ≡ t ∷ ts → (s ≡ t) × (ss ≡ ts)
heads s t ss ts h = (cc, cc)

-- the maps are those whose scopes are the stack
pub by_scopes : (fs : List Contents) (s : Scope) (ks : List Text) (ms : List Map) → Holds ks s → AreMaps ms → scopes s fs ≡ map said ms → maps_from s ks fs ≡ ms
by_scopes [] s ks [] h a e = absurd (cc)
by_scopes [] s ks (m ∷ []) h a e =
    let p : s ≡ said m = (heads s (said m) [] [] e).0 in
    ap (λ (l : Map). l ∷ []) (same_map (listed ks s) m (listed_map ks s) a.0 (λ q. said_listed ks s q ∙ whole ks s q h ∙ ap (λ (t : Scope). t q) p))
by_scopes [] s ks (m ∷ k ∷ ms) h a e = absurd (cc)
by_scopes (f ∷ fs) s ks [] h a e = absurd (cc)
by_scopes (f ∷ fs) s ks (m ∷ ms) h a e =
    let both = heads (within (keys_of f) s) (said m) (scopes (laid s f) fs) (map said ms) e in
    ap (λ (l : Map). l ∷ maps_from (laid s f) (ks ++ keys_of f) fs) (same_map (listed (keys_of f) s) m (listed_map (keys_of f) s) a.0 (λ q. said_listed (keys_of f) s q ∙ ap (λ (t : Scope). t q) both.0))
    ∙ ap (λ (l : List Map). m ∷ l) (by_scopes fs (laid s f) (ks ++ keys_of f) ms (holds_laid ks s f h) a.1 both.1)

-- the scopes of the maps are the stack
pub their_scopes : (fs : List Contents) (s : Scope) (ks : List Text) → Holds ks s → (map said (maps_from s ks fs) ≡ scopes s fs) × AreMaps (maps_from s ks fs)
their_scopes [] s ks h = (ap (λ (t : Scope). t ∷ []) (same_scopes _ _ (λ q. said_listed ks s q ∙ whole ks s q h)), (listed_map ks s, tt))
their_scopes (f ∷ fs) s ks h =
    let rest = their_scopes fs (laid s f) (ks ++ keys_of f) (holds_laid ks s f h) in (
      ap (λ (t : Scope). t ∷ map said (maps_from (laid s f) (ks ++ keys_of f) fs)) (same_scopes _ _ (said_listed (keys_of f) s)) ∙ ap (λ (ts : List Scope). within (keys_of f) s ∷ ts) rest.0,
      (listed_map (keys_of f) s, rest.1),
    )
