-- Vectors of functions when one comes or goes.
use Rattle.std.proofs.Common.{◌≡◌, ℕ, Bool, true, false, cond, List, [], ◌∷◌, Option, Some, None, refl, sym, ap, subst, ◌∙◌, true≢false}
use Rattle.std.specs.Prelude.{is_some, unwrap_or}
use Rattle.std.specs.declared.cmp.Ordering.{Ordering}
use Rattle.std.specs.declared.cmp.Ordering.TheVariants.{Less, Equal, Greater}
use Rattle.std.specs.Ordering.{match_ordering}
use Rattle.std.specs.BTreeMap.{insert_entry}
use Rattle.std.specs.Map.{lookup}
use Rattle.std.specs.Str.{bytes_eq}
use Rattle.apl_names.specs.Maps.{Text, name_cmp}
use Rattle.apl_names.proofs.Texts.{same, itself, flip, equal, not_below, apart, chain, turned}
use Rattle.apl_vectors.specs.Vectors.{Vectors, with_vector, without_vector}
use Rattle.apl_order.specs.Kept.{IsAbove, AreAscending}

abbrev pub listed : Vectors → Text → Option (List ℕ)
listed vs q = lookup (bytes_eq q) vs

abbrev pub put : Text → List ℕ → Vectors → Vectors
put n v vs = insert_entry name_cmp vs n v

lower : (l n : Text) (vs : Vectors) → name_cmp l n ≡ Less → IsAbove n vs → IsAbove l vs
lower l n [] lt h = tt
lower l n (e ∷ es) lt h = (chain l n e.0 lt h.0, h.1)

later : (n : Text) (vs : Vectors) → IsAbove n vs → AreAscending vs
later n [] h = tt
later n (e ∷ es) h = h.1

none-above : (n : Text) (vs : Vectors) → IsAbove n vs → listed vs n ≡ None
none-above n [] h = refl
none-above n (e ∷ es) h = ap (λ c. cond c (Some e.1) (listed es n)) (apart n e.0 h.0) ∙ none-above n es (lower n e.0 es h.0 h.1)

-- ---- one is put

put-above : (l n : Text) (v : List ℕ) (vs : Vectors) → name_cmp l n ≡ Less → IsAbove l vs → IsAbove l (put n v vs)
put-above l n v [] lt h = (lt, tt)
put-above l n v (e ∷ es) lt h = by (name_cmp n e.0) refl (λ g. put-above e.0 n v es g h.1)
  where
    by : (o : Ordering) → name_cmp n e.0 ≡ o → (name_cmp e.0 n ≡ Less → IsAbove e.0 (put n v es)) → IsAbove l (match_ordering o ((n, v) ∷ e ∷ es) ((e.0, v) ∷ es) (e ∷ put n v es))
    by Less o rest = (lt, (o, h.1))
    by Equal o rest = (h.0, h.1)
    by Greater o rest = (h.0, rest (turned n e.0 o))

put-ascends : (n : Text) (v : List ℕ) (vs : Vectors) → AreAscending vs → AreAscending (put n v vs)
put-ascends n v [] h = tt
put-ascends n v (e ∷ es) h = by (name_cmp n e.0) refl
  where
    by : (o : Ordering) → name_cmp n e.0 ≡ o → AreAscending (match_ordering o ((n, v) ∷ e ∷ es) ((e.0, v) ∷ es) (e ∷ put n v es))
    by Less o = (o, h)
    by Equal o = h
    by Greater o = put-above e.0 n v es (turned n e.0 o) h

listed-put : (n : Text) (v : List ℕ) (vs : Vectors) (q : Text) → listed (put n v vs) q ≡ cond (bytes_eq n q) (Some v) (listed vs q)
listed-put n v [] q = ap (λ c. cond c (Some v) None) (flip q n)
listed-put n v (e ∷ es) q = by (name_cmp n e.0) refl (listed-put n v es q)
  where
    replaced : (c d : Bool) → bytes_eq q e.0 ≡ c → bytes_eq n q ≡ d → n ≡ e.0 → cond c (Some v) (listed es q) ≡ cond d (Some v) (cond c (Some e.1) (listed es q))
    replaced true true x y p = refl
    replaced false false x y p = refl
    replaced true false x y p = absurd (true≢false (sym x ∙ flip q e.0 ∙ subst (λ (k : Text). bytes_eq k q ≡ false) p y))
    replaced false true x y p = absurd (true≢false (sym y ∙ subst (λ (k : Text). bytes_eq k q ≡ false) (sym p) (flip e.0 q ∙ x)))

    past : (c d : Bool) → bytes_eq q e.0 ≡ c → bytes_eq n q ≡ d → name_cmp n e.0 ≡ Greater → cond c (Some e.1) (cond d (Some v) (listed es q)) ≡ cond d (Some v) (cond c (Some e.1) (listed es q))
    past true true x y o = absurd (not_below e.0 (subst (λ (k : Text). name_cmp e.0 k ≡ Less) (same n q y ∙ same q e.0 x) (turned n e.0 o)))
    past true false x y o = refl
    past false d x y o = refl

    by : (o : Ordering) → name_cmp n e.0 ≡ o → listed (put n v es) q ≡ cond (bytes_eq n q) (Some v) (listed es q) → listed (match_ordering o ((n, v) ∷ e ∷ es) ((e.0, v) ∷ es) (e ∷ put n v es)) q ≡ cond (bytes_eq n q) (Some v) (listed (e ∷ es) q)
    by Less o h = ap (λ c. cond c (Some v) (listed (e ∷ es) q)) (flip q n)
    by Equal o h = replaced (bytes_eq q e.0) (bytes_eq n q) refl refl (equal n e.0 o)
    by Greater o h = ap (λ w. cond (bytes_eq q e.0) (Some e.1) w) h ∙ past (bytes_eq q e.0) (bytes_eq n q) refl refl o

-- ---- one goes

without-above : (l n : Text) (vs : Vectors) → IsAbove l vs → IsAbove l (without_vector n vs)
without-above l n [] h = tt
without-above l n (e ∷ es) h = by (bytes_eq n e.0) (without-above e.0 n es h.1)
  where
    by : (b : Bool) → IsAbove e.0 (without_vector n es) → IsAbove l (cond b es (e ∷ without_vector n es))
    by true rest = lower l e.0 es h.0 h.1
    by false rest = (h.0, rest)

pub without-ascends : (n : Text) (vs : Vectors) → AreAscending vs → AreAscending (without_vector n vs)
without-ascends n [] h = tt
without-ascends n (e ∷ es) h = by (bytes_eq n e.0)
  where
    by : (b : Bool) → AreAscending (cond b es (e ∷ without_vector n es))
    by true = later e.0 es h
    by false = without-above e.0 n es h

nothing-by : (b : Bool) (o : Option (List ℕ)) → o ≡ None → o ≡ cond b None o
nothing-by true o e = e
nothing-by false o e = refl

pub listed-without : (n : Text) (vs : Vectors) (q : Text) → AreAscending vs → listed (without_vector n vs) q ≡ cond (bytes_eq n q) None (listed vs q)
listed-without n [] q h = nothing-by (bytes_eq n q) None refl
listed-without n (e ∷ es) q h = by (bytes_eq n e.0) (bytes_eq n q) (bytes_eq q e.0) refl refl refl (listed-without n es q (later e.0 es h))
  where
    by : (b c d : Bool) → bytes_eq n e.0 ≡ b → bytes_eq n q ≡ c → bytes_eq q e.0 ≡ d → listed (without_vector n es) q ≡ cond c None (listed es q) → listed (cond b es (e ∷ without_vector n es)) q ≡ cond c None (listed (e ∷ es) q)
    by true true d x y z i = subst (λ (k : Text). listed es k ≡ None) (sym (same n e.0 x) ∙ same n q y) (none-above e.0 es h)
    by true false true x y z i = absurd (true≢false (sym x ∙ ap (bytes_eq n) (sym (same q e.0 z)) ∙ y))
    by true false false x y z i = sym (ap (λ b. cond b (Some e.1) (listed es q)) z)
    by false true true x y z i = absurd (true≢false (sym y ∙ ap (bytes_eq n) (same q e.0 z) ∙ x))
    by false true false x y z i = ap (λ b. cond b (Some e.1) (listed (without_vector n es) q)) z ∙ i
    by false false d x y z i = ap (λ o. cond (bytes_eq q e.0) (Some e.1) o) i

-- ---- one is replaced

-- what is then listed: an empty one isn't
abbrev pub unless_empty : List ℕ → Option (List ℕ)
unless_empty [] = None
unless_empty (n ∷ ns) = Some (n ∷ ns)

pub with-ascends : (n : Text) (v : List ℕ) (vs : Vectors) → AreAscending vs → AreAscending (with_vector n v vs)
with-ascends n [] vs h = without-ascends n vs h
with-ascends n (k ∷ ks) vs h = put-ascends n (k ∷ ks) vs h

pub listed-with : (n : Text) (v : List ℕ) (vs : Vectors) (q : Text) → AreAscending vs → listed (with_vector n v vs) q ≡ cond (bytes_eq n q) (unless_empty v) (listed vs q)
listed-with n [] vs q h = listed-without n vs q h
listed-with n (k ∷ ks) vs q h = listed-put n (k ∷ ks) vs q

-- ---- two that list the same are the same

at-name : (e : Text × List ℕ) (es : Vectors) → listed (e ∷ es) e.0 ≡ Some e.1
at-name e es = ap (λ c. cond c (Some e.1) (listed es e.0)) (itself e.0)

some-none : (v : List ℕ) → Some v ≡ None → ⊥
some-none v e = true≢false (ap is_some e)

some-same : (v w : List ℕ) → Some v ≡ Some w → v ≡ w
some-same v w e = ap (λ o. unwrap_or o v) e

tails : (e d : Text × List ℕ) (es ds : Vectors) → IsAbove e.0 es → IsAbove d.0 ds → e.0 ≡ d.0 → ((q : Text) → listed (e ∷ es) q ≡ listed (d ∷ ds) q) → (q : Text) → listed es q ≡ listed ds q
tails e d es ds h k p f q = by (bytes_eq q e.0) refl
  where
    by : (c : Bool) → bytes_eq q e.0 ≡ c → listed es q ≡ listed ds q
    by true t =
        let a : q ≡ e.0 = same q e.0 t in
        subst (λ (x : Text). listed es x ≡ listed ds x) (sym a) (none-above e.0 es h ∙ sym (subst (λ (x : Text). listed ds x ≡ None) (sym p) (none-above d.0 ds k)))
    by false t =
        let t2 : bytes_eq q d.0 ≡ false = subst (λ (n : Text). bytes_eq q n ≡ false) p t in
        sym (ap (λ c. cond c (Some e.1) (listed es q)) t) ∙ f q ∙ ap (λ c. cond c (Some d.1) (listed ds q)) t2

pub same-vectors : (l m : Vectors) → AreAscending l → AreAscending m → ((q : Text) → listed l q ≡ listed m q) → l ≡ m
same-vectors [] [] h k f = refl
same-vectors [] (d ∷ ds) h k f = absurd (some-none d.1 (sym (at-name d ds) ∙ sym (f d.0)))
same-vectors (e ∷ es) [] h k f = absurd (some-none e.1 (sym (at-name e es) ∙ f e.0))
same-vectors (e ∷ es) (d ∷ ds) h k f = by (name_cmp e.0 d.0) refl (λ p. same-vectors es ds (later e.0 es h) (later d.0 ds k) (tails e d es ds h k p f))
  where
    by : (o : Ordering) → name_cmp e.0 d.0 ≡ o → (e.0 ≡ d.0 → es ≡ ds) → e ∷ es ≡ d ∷ ds
    by Less o rest = absurd (some-none e.1 (sym (at-name e es) ∙ f e.0 ∙ none-above e.0 (d ∷ ds) (o, k)))
    by Greater o rest = absurd (some-none d.1 (sym (at-name d ds) ∙ sym (f d.0) ∙ none-above d.0 (e ∷ es) (turned e.0 d.0 o, h)))
    by Equal o rest =
        let p : e.0 ≡ d.0 = equal e.0 d.0 o in
        let values : e.1 ≡ d.1 = some-same e.1 d.1 (sym (at-name e es) ∙ f e.0 ∙ ap (listed (d ∷ ds)) p ∙ at-name d ds) in
        ap (λ (n : Text). (n, e.1) ∷ es) p ∙ ap (λ (v : List ℕ). (d.0, v) ∷ es) values ∙ ap (λ (l : Vectors). d ∷ l) (rest p)
