-- The header of a text is the one that its tokens write.
use Rattle.std.proofs.Common.{◌≡◌, ℕ, Bool, true, false, List, Option, Some, None, Ok, Err, refl, sym, ap, ◌∙◌, subst, inl, inr}
use Rattle.std.specs.Prelude.{◌⊎◌, if◌then◌else◌}
use Rattle.apl_tokens.specs.declared.token.Token.{Token}
use Rattle.apl_tokens.specs.Lines.{Spells}
use Rattle.apl_tokens.specs.Tokens.{tokens_of, Answer}
use Rattle.apl_defn.specs.declared.error.DefnError.{DefnError}
use Rattle.apl_defn.specs.declared.error.DefnError.TheVariants as error
use Rattle.apl_defn.specs.Definitions.{Text, Header}
use Rattle.apl_defn.specs.Headers.{kinds, names_of, Heads, EachOnce}
use Rattle.apl_defn.specs.Reading.{are_distinct, head_among, head_in, head_of, once, header_of}
use Rattle.apl_defn.proofs.Once.{each_once, once_each}
use Rattle.apl_defn.proofs.Heads.{AreNamed, head_writes, head_again, head_named}
use Rattle.apl_defn.specs.Listing.{canonical}
use Rattle.apl_defn.proofs.Named.{tokens_named}
use Rattle.apl_defn.proofs.Canon.{canonical_heads}

-- a text's tokens are those that spell it
pub record TokenLaws : Type 0 where
  pub spelled : (text : List ℕ) (ts : List Token) → Spells ts text → tokens_of text ≡ Ok ts
  pub spells : (text : List ℕ) (ts : List Token) → tokens_of text ≡ Ok ts → Spells ts text

heads_case : TokenLaws → (text : Text) (h : Header) (answer : Answer) → tokens_of text ≡ answer → head_among answer ≡ Some h → Heads text h
heads_case laws text h (Ok ts) a e =
    let s = laws.spells text ts a in
    let named = tokens_named ts text s in
    let w = head_writes (kinds ts) h named e in
    let n = head_named h (subst AreNamed w.written named) in
    record { tokens = ts; spelled = s; written = w.written; arguments = w.arguments; names = n.0; locals = n.1 }
heads_case laws text h (Err x) a e = cc

pub head_heads : TokenLaws → (text : Text) (h : Header) → head_of text ≡ Some h → Heads text h
unfolding head_of
head_heads laws text h e = heads_case laws text h (tokens_of text) refl e

pub heads_head : TokenLaws → (text : Text) (h : Header) → Heads text h → head_of text ≡ Some h
unfolding head_of
heads_head laws text h p = ap head_among (laws.spelled text p.tokens p.spelled) ∙ ap head_in p.written ∙ head_again h p.arguments

pub one_heading : TokenLaws → (text : Text) (g h : Header) → Heads text g → Heads text h → g ≡ h
one_heading laws text g h p q =
    let e : Some g ≡ Some h = sym (heads_head laws text g p) ∙ heads_head laws text h q in
    cc

-- what a header that is looked at for names that stand twice was
ok_case : (b : Bool) (g h : Header) → are_distinct (names_of g) ≡ b → (if b then Ok g else Err error.Twice) ≡ Ok h → (Some g ≡ Some h) × (are_distinct (names_of h) ≡ true)
ok_case true g h d e = let p : g ≡ h = cc in (ap Some p, subst (λ (x : Header). are_distinct (names_of x) ≡ true) p d)
ok_case false g h d e = cc

once_ok : (o : Option Header) (h : Header) → once o ≡ Ok h → (o ≡ Some h) × (are_distinct (names_of h) ≡ true)
once_ok None h e = cc
once_ok (Some g) h e = ok_case (are_distinct (names_of g)) g h refl e

twice_case : (b : Bool) (g : Header) → are_distinct (names_of g) ≡ b → (if b then Ok g else Err error.Twice) ≡ Err error.Twice → b ≡ false
twice_case true g d e = cc
twice_case false g d e = refl

once_twice : (o : Option Header) → once o ≡ Err error.Twice → (h : Header) × (o ≡ Some h) × (are_distinct (names_of h) ≡ false)
once_twice None e = cc
once_twice (Some g) e = (g, refl, twice_case (are_distinct (names_of g)) g refl e)

none_case : (b : Bool) (g : Header) → (if b then Ok g else Err error.Twice) ≡ Err error.Header → ⊥
none_case true g e = cc
none_case false g e = cc

once_none : (o : Option Header) → once o ≡ Err error.Header → o ≡ None
once_none None e = refl
once_none (Some g) e = absurd (none_case (are_distinct (names_of g)) g e)

error_case : (b : Bool) (g : Header) (x : DefnError) → (if b then Ok g else Err error.Twice) ≡ Err x → x ≡ error.Twice
error_case true g x e = cc
error_case false g x e = cc

once_error : (o : Option Header) (x : DefnError) → once o ≡ Err x → (x ≡ error.Header) ⊎ (x ≡ error.Twice)
once_error None x e = inl cc
once_error (Some g) x e = inr (error_case (are_distinct (names_of g)) g x e)

pub read : TokenLaws → (text : Text) (h : Header) → header_of text ≡ Ok h → Heads text h × EachOnce (names_of h)
unfolding header_of
read laws text h e = let p = once_ok (head_of text) h e in (head_heads laws text h p.0, each_once (names_of h) p.1)

pub reads : TokenLaws → (text : Text) (h : Header) → Heads text h → EachOnce (names_of h) → header_of text ≡ Ok h
unfolding header_of
reads laws text h p o = ap once (heads_head laws text h p) ∙ ap (λ b. if b then Ok h else Err error.Twice) (once_each (names_of h) o)

pub twice : TokenLaws → (text : Text) → header_of text ≡ Err error.Twice → (h : Header) × Heads text h × (EachOnce (names_of h) → ⊥)
unfolding header_of
twice laws text e =
    let p = once_twice (head_of text) e in
    (p.0, head_heads laws text p.0 p.1, λ o. let d = once_each (names_of p.0) o in let f = p.2 in cc)

not_once : (b : Bool) (ws : List Text) → are_distinct ws ≡ b → (EachOnce ws → ⊥) → b ≡ false
not_once true ws d n = absurd (n (each_once ws d))
not_once false ws d n = refl

pub is_twice : TokenLaws → (text : Text) (h : Header) → Heads text h → (EachOnce (names_of h) → ⊥) → header_of text ≡ Err error.Twice
unfolding header_of
is_twice laws text h p n = ap once (heads_head laws text h p) ∙ ap (λ b. if b then Ok h else Err error.Twice) (not_once (are_distinct (names_of h)) (names_of h) refl n)

pub none : TokenLaws → (text : Text) → header_of text ≡ Err error.Header → (h : Header) → Heads text h → ⊥
unfolding header_of
none laws text e h p = let o = once_none (head_of text) e in let s = heads_head laws text h p in cc

is_none_case : TokenLaws → (text : Text) (o : Option Header) → head_of text ≡ o → ((h : Header) → Heads text h → ⊥) → once o ≡ Err error.Header
is_none_case laws text None e n = refl
is_none_case laws text (Some h) e n = absurd (n h (head_heads laws text h e))

pub is_none : TokenLaws → (text : Text) → ((h : Header) → Heads text h → ⊥) → header_of text ≡ Err error.Header
unfolding header_of
is_none laws text n = is_none_case laws text (head_of text) refl n

pub errors : (text : Text) (e : DefnError) → header_of text ≡ Err e → (e ≡ error.Header) ⊎ (e ≡ error.Twice)
unfolding header_of
errors text e h = once_error (head_of text) e h

-- a header is read again from its canonical text
pub again : TokenLaws → (text : Text) (h : Header) → header_of text ≡ Ok h → header_of (canonical h) ≡ Ok h
again laws text h e = let p = read laws text h e in reads laws (canonical h) h (canonical_heads text h p.0) p.1
