-- What may stand directly behind a token.
use Rattle.std.proofs.Common.{◌≡◌, ℕ, ◌<◌, Bool, true, false, ◌&&◌, List, [], ◌∷◌, ◌++◌, length, refl, ap, subst, inl, inr, arith}
use Rattle.apl_tokens.specs.declared.class.Class.{Class}
use Rattle.apl_tokens.specs.declared.class.Class.TheVariants as class
use Rattle.apl_tokens.specs.declared.token.Kind.{Kind}
use Rattle.apl_tokens.specs.declared.token.Kind.TheVariants as kind
use Rattle.apl_tokens.specs.Characters.{class_of, is_letter, is_in_name, is_quote, ends_number}
use Rattle.apl_tokens.specs.Spelling.{class_at, is_quad, Ends}
use Rattle.apl_tokens.specs.Plain.{is_any_name}
use Rattle.apl_tokens.proofs.Classes.{no_class}
use Rattle.apl_tokens.proofs.Words.{BeginsNumber}

and_false : (b : Bool) → (b && false) ≡ false
and_false true = refl
and_false false = refl

pub blank_class : class_of 32 ≡ class.Blank
unfolding class_of
blank_class = refl

-- nothing
pub ends_nil : (k : Kind) → Ends k []
ends_nil (kind.Constant ns) = rw no_class refl
ends_nil (kind.Text text) = rw no_class refl
ends_nil (kind.Name name) = rw no_class refl
ends_nil (kind.Comment text) = refl
ends_nil (kind.System name) = rw no_class refl
ends_nil (kind.Symbol symbol) = rw no_class (and_false (is_quad symbol))

-- a blank, but behind a comment
pub ends_blank : (k : Kind) (text rest : List ℕ) → 0 < length text → Ends k text → Ends k (32 ∷ rest)
ends_blank (kind.Constant ns) text rest some h = rw blank_class refl
ends_blank (kind.Text quoted) text rest some h = rw blank_class refl
ends_blank (kind.Name name) text rest some h = rw blank_class refl
ends_blank (kind.Comment note) text rest some h = absurd (omega (arith, ap length h))
ends_blank (kind.System name) text rest some h = rw blank_class refl
ends_blank (kind.Symbol symbol) text rest some h = rw blank_class (and_false (is_quad symbol))

-- a text that begins alike
pub ends_same : (k : Kind) (text other : List ℕ) → class_at text ≡ class_at other → 0 < length text → Ends k text → Ends k other
ends_same (kind.Constant ns) text other e some h = subst (λ (c : Class). ends_number c ≡ true) e h
ends_same (kind.Text quoted) text other e some h = subst (λ (c : Class). is_quote c ≡ false) e h
ends_same (kind.Name name) text other e some h = subst (λ (c : Class). is_in_name c ≡ false) e h
ends_same (kind.Comment note) text other e some h = absurd (omega (arith, ap length h))
ends_same (kind.System name) text other e some h = subst (λ (c : Class). is_in_name c ≡ false) e h
ends_same (kind.Symbol symbol) text other e some h = subst (λ (c : Class). (is_quad symbol && is_letter c) ≡ false) e h

no_number : (c : Class) → BeginsNumber c → ends_number c ≡ false
no_number c (inl e) = rw e refl
no_number c (inr e) = rw e refl

-- behind a constant no number begins
pub ends_constant : (text : List ℕ) → ends_number (class_at text) ≡ true → BeginsNumber (class_at text) → ⊥
ends_constant text h first = let no = no_number (class_at text) first in let is = rw no at h in absurd cc

no_quote : (c : Class) → BeginsNumber c → is_quote c ≡ false
no_quote c (inl e) = rw e refl
no_quote c (inr e) = rw e refl

no_letter : (c : Class) → BeginsNumber c → is_letter c ≡ false
no_letter c (inl e) = rw e refl
no_letter c (inr e) = rw e refl

-- a number for a number, with its minus behind a name
pub ends_number_too : (k : Kind) (text other : List ℕ) → BeginsNumber (class_at text) → BeginsNumber (class_at other) → (is_any_name k ≡ true → class_at other ≡ class.Minus) → 0 < length text → Ends k text → Ends k other
ends_number_too (kind.Constant ns) text other first new minus some h = absurd (ends_constant text h first)
ends_number_too (kind.Text quoted) text other first new minus some h = no_quote (class_at other) new
ends_number_too (kind.Name name) text other first new minus some h = rw (minus refl) refl
ends_number_too (kind.Comment note) text other first new minus some h = absurd (omega (arith, ap length h))
ends_number_too (kind.System name) text other first new minus some h = rw (minus refl) refl
ends_number_too (kind.Symbol symbol) text other first new minus some h = rw (no_letter (class_at other) new) (and_false (is_quad symbol))

-- the first character of a word
pub first_same : (word a b : List ℕ) → 0 < length word → class_at (word ++ a) ≡ class_at (word ++ b)
first_same [] a b some = absurd (omega arith)
first_same (c ∷ word) a b some = refl
