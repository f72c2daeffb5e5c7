-- What is known of a function that is defined: no name of it but a local is ⎕IO.
use Rattle.std.proofs.Common.{◌≡◌, ℕ, suc, Bool, true, false, List, [], ◌∷◌, ◌++◌, map, Option, Some, None, Ok, Err, refl, sym, ap, subst, ◌∙◌}
use Rattle.std.specs.Prelude.{if◌then◌else◌}
use Rattle.std.specs.List.{AllByRecursion}
use Rattle.std.specs.Option.{option_to_list}
use Rattle.apl_symbols.specs.declared.symbol.Symbol.TheVariants.{Quad}
use Rattle.apl_tokens.specs.declared.class.Class.TheVariants as class
use Rattle.apl_tokens.specs.declared.token.Kind.{Kind}
use Rattle.apl_tokens.specs.declared.token.Kind.TheVariants.{Name}
use Rattle.apl_tokens.specs.declared.token.Token.{Token}
use Rattle.apl_tokens.specs.Characters.{class_of}
use Rattle.apl_tokens.specs.Kinds.{is_colon}
use Rattle.apl_tokens.specs.Spelling.{IsName, class_at}
use Rattle.apl_tokens.specs.Tokens.{Answer, tokens_of}
use Rattle.apl_tokens.proofs.Answered.{answer_spells, spelled_answer}
use Rattle.apl_defn.specs.Definitions.{Text, Definition}
use Rattle.apl_defn.specs.Headers.{Heads, kinds}
use Rattle.apl_defn.specs.Reading.{name_in}
use Rattle.apl_defn.specs.Defining.{IsDefined, label_among, label_in, labelled, labels_from}
use Rattle.apl_defn.proofs.Heads.{IsNamed, AreNamed, quad_class}
use Rattle.apl_defn.proofs.Named.{tokens_named}
use Rattle.apl_defn.proofs.Limits.{defined_made}
use Rattle.apl_defn.proofs.Headings.{TokenLaws, head_heads}
use Rattle.apl_names.specs.Maps.{said}
use Rattle.apl_names.proofs.Texts.{differ}
use Rattle.apl_machine_state.specs.Environment.{origin_name}
use Rattle.apl_machine_state.specs.Calls.{label_of}

no-origin : (name : Text) → IsName name → origin_name ≡ name → ⊥
no-origin name named e =
    let letter : class_of 0x2395 ≡ class.Letter = subst (λ (w : Text). class_at w ≡ class.Letter) (sym e) named.letter in
    let clash : class.Symbol Quad ≡ class.Letter = sym quad_class ∙ letter in
    cc

-- ---- labels

-- each label is a name
abbrev AreNames : List (Text × ℕ) → Type 0
AreNames [] = Unit {0}
AreNames (l ∷ ls) = IsName l.0 × AreNames ls

abbrev IsNameIn : Option Text → Type 0
IsNameIn None = Unit {0}
IsNameIn (Some name) = IsName name

kind-name : (k : Kind) → IsNamed k → IsNameIn (name_in k)
kind-name (Name name) h = h
kind-name k h = tt

label-name : (ts : List Token) → AreNamed (kinds ts) → IsNameIn (label_in ts)
label-name [] h = tt
label-name (t ∷ []) h = tt
label-name (t ∷ u ∷ ts) h = by (is_colon u.kind)
  where
    by : (b : Bool) → IsNameIn (if b then name_in t.kind else None)
    by true = kind-name t.kind h.0
    by false = tt

answer-name : (text : Text) (a : Answer) → tokens_of text ≡ a → IsNameIn (label_among a)
answer-name text (Ok ts) e = label-name ts (tokens_named ts text (answer_spells text ts e))
answer-name text (Err error) e = tt

one-label : (n : ℕ) (o : Option Text) (ls : List (Text × ℕ)) → IsNameIn o → AreNames ls → AreNames (labelled n o ++ ls)
one-label n None ls a h = h
one-label n (Some name) ls a h = (a, h)

label-names : (n : ℕ) (lines : List Text) → AreNames (labels_from n lines)
label-names n [] = tt
label-names n (line ∷ lines) = one-label n (label_among (tokens_of line)) (labels_from (suc n) lines) (answer-name line (tokens_of line) refl) (label-names (suc n) lines)

none-said : (ls : List (Text × ℕ)) → AreNames ls → said (map label_of ls) origin_name ≡ None
none-said [] h = refl
none-said (l ∷ ls) h = ap (λ b. if b then Some (label_of l).1 else said (map label_of ls) origin_name) (differ origin_name l.0 (no-origin l.0 h.0)) ∙ none-said ls h.1

pub labels-said : (d : Definition) → IsDefined d → said (map label_of d.labels) origin_name ≡ None
labels-said d h =
    let m = defined_made h.0 d.lines d h.1 in
    subst (λ (e : Definition). said (map label_of e.labels) origin_name ≡ None) m.2.is (none-said (labels_from 1 d.lines) (label-names 1 d.lines))

-- ---- the function's own name

own-name : (left : Option Text) (name : Text) (rest : List Text) → AllByRecursion IsName (option_to_list left ++ name ∷ rest) → IsName name
own-name None name rest h = h.0
own-name (Some l) name rest h = h.1.0

with-result : (result left : Option Text) (name : Text) (rest : List Text) → AllByRecursion IsName (option_to_list result ++ (option_to_list left ++ name ∷ rest)) → IsName name
with-result None left name rest h = own-name left name rest h
with-result (Some z) left name rest h = own-name left name rest h.1

laws : TokenLaws
laws = record { spelled = spelled_answer; spells = answer_spells }

pub own-said : (d : Definition) → IsDefined d → d.header.name ≡ origin_name → ⊥
own-said d h e =
    let m = defined_made h.0 d.lines d h.1 in
    let heads : Heads h.0 m.0 = head_heads laws h.0 m.0 m.1 in
    let named : IsName m.0.name = with-result m.0.result m.0.left m.0.name (option_to_list m.0.right) heads.names in
    let same : m.0.name ≡ d.header.name = ap (λ (x : Definition). x.header.name) m.2.is in
    no-origin m.0.name named (sym (same ∙ e))
