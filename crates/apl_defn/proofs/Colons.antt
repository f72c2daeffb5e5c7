-- A text without a colon has no label.
use Rattle.std.proofs.Common.{◌≡◌, ℕ, ◌==◌, ◌||◌, Bool, true, false, List, [], ◌∷◌, ◌++◌, None, Ok, Err, refl, sym, ap, ◌∙◌, subst}
use Rattle.std.specs.Prelude.{is_ok}
use Rattle.std.specs.List.{list_any}
use Rattle.apl_symbols.specs.declared.symbol.Symbol.TheVariants.{Colon}
use Rattle.apl_tokens.specs.declared.place.Place.{Place}
use Rattle.apl_tokens.specs.declared.token.Kind.{Kind}
use Rattle.apl_tokens.specs.declared.token.Kind.TheVariants.{Constant, Symbol}
use Rattle.apl_tokens.specs.declared.token.Token.{Token}
use Rattle.apl_tokens.specs.Kinds.{is_colon}
use Rattle.apl_tokens.specs.Spelling.{IsSpelled, next_place, Row}
use Rattle.apl_tokens.specs.Joined.{join_kinds, join, joined}
use Rattle.apl_tokens.specs.Lines.{Spells}
use Rattle.apl_tokens.specs.Tokens.{tokens_of, Answer}
use Rattle.apl_tokens.proofs.Answered.{answer_spells}
use Rattle.apl_defn.specs.Definitions.{Text}
use Rattle.apl_defn.specs.Defining.{label_in, label_among}

abbrev has_colon : Text → Bool
has_colon = list_any (λ c. c == 58)

-- what has no colon has none behind or in prefix
or_right : (a b : Bool) → (a || b) ≡ false → b ≡ false
or_right true b h = absurd cc
or_right false b h = h

or_left : (a b : Bool) → (a || b) ≡ false → a ≡ false
or_left true b h = absurd cc
or_left false b h = refl

none_behind : (prefix back : Text) → has_colon (prefix ++ back) ≡ false → has_colon back ≡ false
none_behind [] back h = h
none_behind (c ∷ prefix) back h = none_behind prefix back (or_right (c == 58) _ h)

none_before : (prefix back : Text) → has_colon (prefix ++ back) ≡ false → has_colon prefix ≡ false
none_before [] back h = refl
none_before (c ∷ prefix) back h = rw (or_left (c == 58) _ h) (none_before prefix back (or_right (c == 58) _ h))

-- no token is a colon
abbrev NoColons : List Token → Type 0
NoColons [] = Unit {0}
NoColons (t ∷ ts) = (is_colon t.kind ≡ false) × NoColons ts

colon_is : (word : List ℕ) → word ≡ 58 ∷ [] → has_colon word ≡ false → ⊥
colon_is word w e =
    let both : has_colon (58 ∷ []) ≡ false = ap has_colon (sym w) ∙ e in
    cc

spelled_case : (k : Kind) (word : List ℕ) → IsSpelled k word → has_colon word ≡ false → is_colon k ≡ false
spelled_case (Symbol Colon) word h e = absurd (colon_is word h e)
spelled_case k word h e = refl

row_case : (end : ℕ) (place : Place) (ts : List Token) (text rest : List ℕ) → Row end place ts text rest → has_colon text ≡ false → NoColons ts
row_case end place [] text rest h e = tt
row_case end place (t ∷ ts) text rest h e =
    let s = h.1 in
    let behind : has_colon (s.word ++ h.0) ≡ false = none_behind s.gap (s.word ++ h.0) (ap has_colon (sym s.parts) ∙ e) in
    (spelled_case t.kind s.word s.spelled (none_before s.word h.0 behind), row_case end (next_place place t.kind) ts h.0 rest h.2 (none_behind s.word h.0 behind))

join_case : (t : Token) (k : Kind) (u : Token) (j : Kind) (us : List Token) → is_colon t.kind ≡ false → is_colon u.kind ≡ false → NoColons us → NoColons (join_kinds t k u j us)
join_case t (Constant ns) u (Constant ms) us p q r = (refl, r)
join_case t k u j us p q r = (p, (q, r))

join_none : (t : Token) (us : List Token) → is_colon t.kind ≡ false → NoColons us → NoColons (join t us)
join_none t [] p r = (p, tt)
join_none t (u ∷ us) p r = join_case t t.kind u u.kind us p r.0 r.1

joined_none : (ts : List Token) → NoColons ts → NoColons (joined ts)
joined_none [] h = tt
joined_none (t ∷ ts) h = join_none t (joined ts) h.0 (joined_none ts h.1)

spells_none : (ts : List Token) (text : Text) → Spells ts text → has_colon text ≡ false → NoColons ts
spells_none ts text s e = subst NoColons (sym s.tokens_are) (joined_none s.pieces (row_case _ _ s.pieces text s.spelled.rest s.spelled.row e))

label_case : (ts : List Token) → NoColons ts → label_in ts ≡ None
label_case [] h = refl
label_case (t ∷ []) h = refl
label_case (t ∷ u ∷ ts) h = rw h.1.0 refl

answer_case : (text : Text) (answer : Answer) → tokens_of text ≡ answer → has_colon text ≡ false → label_among answer ≡ None
answer_case text (Ok ts) a e = label_case ts (spells_none ts text (answer_spells text ts a) e)
answer_case text (Err x) a e = refl

faulty_case : (answer : Answer) → is_ok answer ≡ false → label_among answer ≡ None
faulty_case (Ok ts) e = absurd cc
faulty_case (Err x) e = refl

-- nor has a text without tokens
pub faulty_label : (text : Text) → is_ok (tokens_of text) ≡ false → label_among (tokens_of text) ≡ None
faulty_label text e = faulty_case (tokens_of text) e

pub no_label : (text : Text) → list_any (λ c. c == 58) text ≡ false → label_among (tokens_of text) ≡ None
no_label text e = answer_case text (tokens_of text) refl e
