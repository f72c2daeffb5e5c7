-- Texts that are names.
use Rattle.std.proofs.Common.{◌≡◌, ◌↔◌, ℕ, ◌+◌, Bool, Option, Some, Ok, Err, List, [], ◌∷◌, length, refl, sym, ap, ◌∙◌, subst, arith}
use Rattle.std.specs.Prelude.{IsTrue}
use Rattle.std.proofs.lemmas.List.{append-nil}
use Rattle.apl_charset.specs.Text.{IsLine}
use Rattle.apl_charset.proofs.Unique.{one_text}
use Rattle.apl_tokens.specs.Brackets.{unmatched}
use Rattle.apl_tokens.specs.Characters.{is_in_name}
use Rattle.apl_tokens.specs.Lines.{Spells}
use Rattle.apl_tokens.specs.Spelling.{IsName}
use Rattle.apl_tokens.specs.Tokens.{tokens_of, Answer, token}
use Rattle.apl_tokens.specs.declared.token.Kind.{Kind}
use Rattle.apl_tokens.specs.declared.token.Kind.TheVariants.{Name}
use Rattle.apl_tokens.specs.declared.token.Token.{Token}
use Rattle.apl_tokens.proofs.Answered.{answer_spells, spelled_answer}
use Rattle.apl_tokens.proofs.Classes.{no_class}
use Rattle.apl_defn.specs.Headers.{kinds}
use Rattle.apl_defn.specs.Reading.{name_in, name_of, only_name}
use Rattle.apl_defn.proofs.Heads.{AreNamed, IsNamed}
use Rattle.apl_defn.proofs.Named.{tokens_named}

-- ---- the name that a text is

kind_named : (k : Kind) (n : List ℕ) → name_in k ≡ Some n → IsNamed k → IsName n
kind_named (Name m) n e h = let same : m ≡ n = cc in subst IsName same h
kind_named k n e h = cc

among_named : (ts : List Token) (n : List ℕ) → only_name (Ok ts) ≡ Some n → AreNamed (kinds ts) → IsName n
among_named [] n e h = cc
among_named (t ∷ []) n e h = kind_named t.kind n e h.0
among_named (t ∷ u ∷ ts) n e h = cc

-- what a text is as a name is one
pub is_named : (text n : List ℕ) → name_of text ≡ Some n → IsName n
is_named text n e = by (tokens_of text) refl e
  where
    by : (a : Answer) → tokens_of text ≡ a → only_name a ≡ Some n → IsName n
    by (Ok ts) t is = among_named ts n is (tokens_named ts text (answer_spells text ts t))
    by (Err x) t is = cc

-- a name is the one token of its text
spelled : (name : List ℕ) → IsName name → Spells (token (Name name) 1 ∷ []) name
unfolding unmatched
spelled name h = record {
  short = omega (arith, h.short);
  pieces = token (Name name) 1 ∷ [];
  spelled = record {
    rest = [];
    row = (
      [],
      record {
        gap = [];
        word = name;
        parts = sym (append-nil name);
        blank = refl;
        at = ap (λ (w : List ℕ). 1 + length w) (append-nil name) ∙ omega arith;
        spelled = (refl, h);
        ends = ap is_in_name no_class;
        stands = refl;
      },
      refl,
    );
    blank = refl;
  };
  balanced = refl;
  tokens_are = refl;
}

pub named_itself : (name : List ℕ) → IsName name → name_of name ≡ Some name
named_itself name h = ap only_name (spelled_answer name (token (Name name) 1 ∷ []) (spelled name h))

-- a text that gives no name, or another one than it is, isn't one
pub none_named : (text : List ℕ) (o : Option (List ℕ)) → o ≡ name_of text → ((n : List ℕ) → o ≡ Some n → ⊥) → ¬ IsName text
none_named text o is none h = none text (is ∙ named_itself text h)

pub other_named : (text n : List ℕ) (o : Option (List ℕ)) → o ≡ name_of text → o ≡ Some n → (n ≡ text → ⊥) → ¬ IsName text
other_named text n o is some other h = other (first (sym some ∙ (is ∙ named_itself text h)))
  where
    first : ◌≡◌ {A = Option (List ℕ)} (Some n) (Some text) → n ≡ text
    first e = cc

-- ---- the name that a field is

-- where the text of a field is no name, the field is none
pub no_name : (field text seen : List ℕ) → IsLine field text → seen ≡ text → ¬ IsName seen → (name : List ℕ) → ¬ (IsLine field name × IsName name)
no_name field text seen l e other name h = other (subst IsName (one_text field name text h.0 l ∙ sym e) h.1)

-- a field is a name just where its text is
pub line_same : (field text name seen shown : List ℕ) (b : Bool) → IsLine field text → seen ≡ text → shown ≡ name → IsTrue b ↔ (seen ≡ shown) → IsTrue b ↔ IsLine field name
line_same field text name seen shown b l s n h =
    (λ t. subst (IsLine field) (sym s ∙ h.0 t ∙ n) l, λ k. h.1 (s ∙ one_text field text name l k ∙ sym n))
