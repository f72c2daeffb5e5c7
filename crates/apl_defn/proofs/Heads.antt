-- The kinds of tokens that write a header write that header, and no other.
use Rattle.std.proofs.Common.{◌≡◌, Bool, true, false, List, [], ◌∷◌, ◌++◌, map, Option, Some, None, refl, sym, ap, ◌∙◌, subst, inl, inr}
use Rattle.std.specs.Prelude.{IsSome, if◌then◌else◌}
use Rattle.std.specs.List.{flat_map, AllByRecursion}
use Rattle.std.specs.Option.{option_to_list}
use Rattle.std.specs.Str.{bytes_eq}
use Rattle.std.proofs.lemmas.Slice.Eq.{bytes_eq-Decides}
use Rattle.apl_symbols.specs.Glyphs.{symbol_of}
use Rattle.apl_symbols.specs.declared.symbol.Symbol.TheVariants.{LeftArrow, Semicolon, Quad}
use Rattle.apl_symbols.specs.declared.system.SystemName.TheVariants.{Origin}
use Rattle.apl_tokens.specs.declared.class.Class.TheVariants as class
use Rattle.apl_tokens.specs.declared.token.Kind.{Kind}
use Rattle.apl_tokens.specs.declared.token.Kind.TheVariants.{Name, System, Symbol}
use Rattle.apl_tokens.specs.Characters.{class_of}
use Rattle.apl_tokens.specs.Spelling.{IsName, class_at}
use Rattle.apl_defn.specs.declared.parts.Form.{Form}
use Rattle.apl_defn.specs.Definitions.{Text, Header}
use Rattle.apl_defn.specs.Headers.{origin, local_kind, kinds_of, user_names, IsLocal}
use Rattle.apl_defn.specs.Reading.{name_in, local_in, is_arrow, is_semicolon, with_result, split_result, behind_two, after_two, behind_one, after_one, form_at, local_before, locals_of, with_locals, with_form, head_in}

-- what a token with that kind says of its name
abbrev pub IsNamed : Kind → Type 0
IsNamed (Name name) = IsName name
IsNamed kind = Unit {0}

abbrev pub AreNamed : List Kind → Type 0
AreNamed = AllByRecursion IsNamed

name_is : (k : Kind) (n : Text) → name_in k ≡ Some n → k ≡ Name n
name_is (Name m) n e = cc
name_is k n e = cc

arrow_is : (k : Kind) → is_arrow k ≡ true → k ≡ Symbol LeftArrow
arrow_is (Symbol LeftArrow) e = refl
arrow_is k e = cc

semicolon_is : (k : Kind) → is_semicolon k ≡ true → k ≡ Symbol Semicolon
semicolon_is (Symbol Semicolon) e = refl
semicolon_is k e = cc

-- ⎕IO is no name
pub quad_class : class_of 0x2395 ≡ class.Symbol Quad
unfolding class_of symbol_of
quad_class = refl

no_origin : (m : Text) → m ≡ origin → IsName m → ⊥
no_origin m e named =
    let letter : class_of 0x2395 ≡ class.Letter = subst (λ (w : Text). class_at w ≡ class.Letter) e named.letter in
    let clash : class.Symbol Quad ≡ class.Letter = sym quad_class ∙ letter in
    cc

kind_of_name : (b : Bool) (m : Text) → bytes_eq m origin ≡ b → IsName m → Name m ≡ (if b then System Origin else Name m)
kind_of_name true m e named = absurd (no_origin m ((bytes_eq-Decides m origin).0 e) named)
kind_of_name false m e named = refl

local_is : (k : Kind) (word : Text) → local_in k ≡ Some word → IsNamed k → k ≡ local_kind word
local_is (Name m) word e named = let p : m ≡ word = cc in subst (λ (w : Text). Name m ≡ local_kind w) p (kind_of_name (bytes_eq m origin) m refl named)
local_is (System Origin) word e named = let p : origin ≡ word = cc in ap local_kind p
local_is k word e named = cc

-- a header's kinds by its parts
abbrev result_kinds : Option Text → List Kind
result_kinds result = flat_map (λ z. Name z ∷ Symbol LeftArrow ∷ []) (option_to_list result)

abbrev form_kinds : Form → List Kind → List Kind
form_kinds f rest = map Name (option_to_list f.left) ++ (Name f.name ∷ (map Name (option_to_list f.right) ++ rest))

abbrev pub locals_kinds : List Text → List Kind
locals_kinds = flat_map (λ word. Symbol Semicolon ∷ local_kind word ∷ [])

split_case : (k j : Kind) (ks : List Kind) (o : Option Text) (b : Bool) → name_in k ≡ o → is_arrow j ≡ b → k ∷ j ∷ ks ≡ result_kinds (with_result o b ks (k ∷ j ∷ ks)).0 ++ (with_result o b ks (k ∷ j ∷ ks)).1
split_case k j ks (Some z) true e f = let p = name_is k z e in let q = arrow_is j f in cc
split_case k j ks (Some z) false e f = refl
split_case k j ks None b e f = refl

split_is : (ks : List Kind) → ks ≡ result_kinds (split_result ks).0 ++ (split_result ks).1
unfolding split_result
split_is [] = refl
split_is (k ∷ []) = refl
split_is (k ∷ j ∷ ks) = split_case k j ks (name_in k) (is_arrow j) refl refl

-- the kinds are the form and what stands behind it
record Splits (ks : List Kind) (r : Form × List Kind) : Type 0 where
  pub kinds_are : ks ≡ form_kinds r.0 r.1
  pub arguments : IsSome r.0.left → IsSome r.0.right

two_case : (a b : Text) (k : Kind) (ks : List Kind) (o : Option Text) → name_in k ≡ o → Splits (Name a ∷ Name b ∷ k ∷ ks) (behind_two a b o ks (k ∷ ks))
two_case a b k ks None e = record { kinds_are = refl; arguments = λ h. refl }
two_case a b k ks (Some c) e = record { kinds_are = ap (λ j. Name a ∷ Name b ∷ j ∷ ks) (name_is k c e); arguments = λ h. refl }

two_splits : (a b : Text) (ks : List Kind) → Splits (Name a ∷ Name b ∷ ks) (after_two a b ks)
two_splits a b [] = record { kinds_are = refl; arguments = λ h. refl }
two_splits a b (k ∷ ks) = two_case a b k ks (name_in k) refl

one_case : (a : Text) (k : Kind) (ks : List Kind) (o : Option Text) → name_in k ≡ o → Splits (Name a ∷ k ∷ ks) (behind_one a o ks (k ∷ ks))
one_case a k ks None e = record { kinds_are = refl; arguments = λ h. h }
one_case a k ks (Some b) e = subst (λ (j : Kind). Splits (Name a ∷ j ∷ ks) (after_two a b ks)) (sym (name_is k b e)) (two_splits a b ks)

one_splits : (a : Text) (ks : List Kind) → Splits (Name a ∷ ks) (after_one a ks)
one_splits a [] = record { kinds_are = refl; arguments = λ h. h }
one_splits a (k ∷ ks) = one_case a k ks (name_in k) refl

form_case : (k : Kind) (ks : List Kind) (o : Option Text) (r : Form × List Kind) → name_in k ≡ o → form_at (k ∷ ks) ≡ Some r → Splits (k ∷ ks) r
unfolding form_at
form_case k ks None r e h = let p : None ≡ Some r = rw e at h in cc
form_case k ks (Some a) r e h =
    let p : Some (after_one a ks) ≡ Some r = rw e at h in
    let q : after_one a ks ≡ r = cc in
    subst (λ (j : Kind). Splits (j ∷ ks) r) (sym (name_is k a e)) (subst (Splits (Name a ∷ ks)) q (one_splits a ks))

form_splits : (ks : List Kind) (r : Form × List Kind) → form_at ks ≡ Some r → Splits ks r
unfolding form_at
form_splits [] r h = cc
form_splits (k ∷ ks) r h = form_case k ks (name_in k) r refl h

locals_case : (k j : Kind) (ks : List Kind) (b : Bool) (o : Option Text) (os : Option (List Text)) (ws : List Text) → is_semicolon k ≡ b → local_in j ≡ o → locals_of ks ≡ os → local_before b o os ≡ Some ws → IsNamed j → ((vs : List Text) → locals_of ks ≡ Some vs → ks ≡ locals_kinds vs) → k ∷ j ∷ ks ≡ locals_kinds ws
locals_case k j ks true (Some w) (Some vs) ws is_b is_o is_os e named later =
    let p = semicolon_is k is_b in
    let q = local_is j w is_o named in
    let r = later vs is_os in
    let s : w ∷ vs ≡ ws = cc in
    let prefix : k ∷ j ∷ ks ≡ Symbol Semicolon ∷ local_kind w ∷ locals_kinds vs = cc in
    prefix ∙ ap locals_kinds s
locals_case k j ks b o os ws is_b is_o is_os e named later = cc

locals_are : (ks : List Kind) (ws : List Text) → AreNamed ks → locals_of ks ≡ Some ws → ks ≡ locals_kinds ws
locals_are [] ws named e = let p : [] ≡ ws = cc in ap locals_kinds p
locals_are (k ∷ []) ws named e = cc
locals_are (k ∷ j ∷ ks) ws named e = locals_case k j ks (is_semicolon k) (local_in j) (locals_of ks) ws refl refl refl e named.1.0 (λ vs h. locals_are ks vs named.1.1 h)

named_behind : (prefix ks : List Kind) → AreNamed (prefix ++ ks) → AreNamed ks
named_behind [] ks h = h
named_behind (k ∷ prefix) ks h = named_behind prefix ks h.1

-- the kinds are the header's
pub record Writes (ks : List Kind) (h : Header) : Type 0 where
  pub written : ks ≡ kinds_of h
  pub arguments : IsSome h.left → IsSome h.right

head_locals : (ks rest : List Kind) (result : Option Text) (f : Form) (o : Option (List Text)) (h : Header) → ks ≡ result_kinds result ++ form_kinds f rest → (IsSome f.left → IsSome f.right) → AreNamed rest → locals_of rest ≡ o → with_locals result f o ≡ Some h → Writes ks h
head_locals ks rest result f None h e a named l w = cc
head_locals ks rest result f (Some ws) h e a named l w =
    let g : Header = record { result = result; left = f.left; name = f.name; right = f.right; locals = ws } in
    let same : g ≡ h = cc in
    subst (Writes ks) same (record { written = e ∙ ap (λ r. result_kinds result ++ form_kinds f r) (locals_are rest ws named l); arguments = a })

form_named : (f : Form) (rest : List Kind) → AreNamed (form_kinds f rest) → AreNamed rest
form_named f rest h = named_behind (map Name (option_to_list f.right)) rest (named_behind (map Name (option_to_list f.left)) _ h).1

head_form : (ks rest : List Kind) (result : Option Text) (o : Option (Form × List Kind)) (h : Header) → ks ≡ result_kinds result ++ rest → AreNamed ks → form_at rest ≡ o → with_form result o ≡ Some h → Writes ks h
head_form ks rest result None h e named f w = cc
head_form ks rest result (Some r) h e named f w =
    let s = form_splits rest r f in
    let all = e ∙ ap (λ x. result_kinds result ++ x) s.kinds_are in
    head_locals ks r.1 result r.0 (locals_of r.1) h all s.arguments (form_named r.0 r.1 (named_behind (result_kinds result) _ (subst AreNamed all named))) refl w

-- a header that kinds write is written with them
pub head_writes : (ks : List Kind) (h : Header) → AreNamed ks → head_in ks ≡ Some h → Writes ks h
unfolding head_in
head_writes ks h named e = head_form ks (split_result ks).1 (split_result ks).0 (form_at (split_result ks).1) h (split_is ks) named refl e

-- a header is read from its kinds
local_again : (b : Bool) (word : Text) → bytes_eq word origin ≡ b → local_in (if b then System Origin else Name word) ≡ Some word
local_again true word e = ap Some (sym ((bytes_eq-Decides word origin).0 e))
local_again false word e = refl

locals_again : (ws : List Text) → locals_of (locals_kinds ws) ≡ Some ws
locals_again [] = refl
locals_again (w ∷ ws) = rw (local_again (bytes_eq w origin) w refl, locals_again ws) refl

-- a header by its names
abbrev pub head : Option Text → Option Text → Text → Option Text → List Text → Header
head result left name right locals = record { result = result; left = left; name = name; right = right; locals = locals }

behind_names : (result : Option Text) (left : Option Text) (n : Text) (right : Option Text) (ws : List Text) → (IsSome left → IsSome right) → form_at (map Name (option_to_list left) ++ (Name n ∷ (map Name (option_to_list right) ++ locals_kinds ws))) ≡ Some (record { left = left; name = n; right = right }, locals_kinds ws)
unfolding form_at
behind_names result None n None [] a = refl
behind_names result None n None (w ∷ ws) a = refl
behind_names result None n (Some b) [] a = refl
behind_names result None n (Some b) (w ∷ ws) a = refl
behind_names result (Some l) n None ws a = let no : false ≡ true = a refl in cc
behind_names result (Some l) n (Some b) ws a = refl

no_result : (left : Option Text) (n : Text) (right : Option Text) (ws : List Text) → let ks = map Name (option_to_list left) ++ (Name n ∷ (map Name (option_to_list right) ++ locals_kinds ws)) in split_result ks ≡ (None, ks)
unfolding split_result
no_result None n None [] = refl
no_result None n None (w ∷ ws) = refl
no_result None n (Some b) ws = refl
no_result (Some l) n right ws = refl

split_again : (result : Option Text) (left : Option Text) (n : Text) (right : Option Text) (ws : List Text) → split_result (kinds_of (head result left n right ws)) ≡ (result, map Name (option_to_list left) ++ (Name n ∷ (map Name (option_to_list right) ++ locals_kinds ws)))
unfolding split_result
split_again None left n right ws = no_result left n right ws
split_again (Some z) left n right ws = refl

pub head_again : (h : Header) → (IsSome h.left → IsSome h.right) → head_in (kinds_of h) ≡ Some h
unfolding head_in
head_again h a = rw (split_again h.result h.left h.name h.right h.locals, behind_names h.result h.left h.name h.right h.locals a, locals_again h.locals) refl

-- the names of a header that tokens write are names
local_named : (b : Bool) (word : Text) → bytes_eq word origin ≡ b → IsNamed (if b then System Origin else Name word) → IsLocal word
local_named true word e h = inl ((bytes_eq-Decides word origin).0 e)
local_named false word e h = inr h

pub locals_named : (ws : List Text) → AreNamed (locals_kinds ws) → AllByRecursion IsLocal ws
locals_named [] h = tt
locals_named (w ∷ ws) h = (local_named (bytes_eq w origin) w refl h.1.0, locals_named ws h.1.1)

right_named : (right : Option Text) (ws : List Text) → AreNamed (map Name (option_to_list right) ++ locals_kinds ws) → AllByRecursion IsName (option_to_list right) × AllByRecursion IsLocal ws
right_named None ws h = (tt, locals_named ws h)
right_named (Some b) ws h = ((h.0, tt), locals_named ws h.1)

form_all_named : (left : Option Text) (n : Text) (right : Option Text) (ws : List Text) → AreNamed (map Name (option_to_list left) ++ (Name n ∷ (map Name (option_to_list right) ++ locals_kinds ws))) → AllByRecursion IsName (option_to_list left ++ (n ∷ option_to_list right)) × AllByRecursion IsLocal ws
form_all_named None n right ws h = let p = right_named right ws h.1 in ((h.0, p.0), p.1)
form_all_named (Some l) n right ws h = let p = right_named right ws h.1.1 in ((h.0, (h.1.0, p.0)), p.1)

result_all_named : (result left : Option Text) (n : Text) (right : Option Text) (ws : List Text) → AreNamed (kinds_of (head result left n right ws)) → AllByRecursion IsName (user_names (head result left n right ws)) × AllByRecursion IsLocal ws
result_all_named None left n right ws h = form_all_named left n right ws h
result_all_named (Some z) left n right ws h = let p = form_all_named left n right ws h.1.1 in ((h.0, p.0), p.1)

pub head_named : (h : Header) → AreNamed (kinds_of h) → AllByRecursion IsName (user_names h) × AllByRecursion IsLocal h.locals
head_named h named = result_all_named h.result h.left h.name h.right h.locals named
