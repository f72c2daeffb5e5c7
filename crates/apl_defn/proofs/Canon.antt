-- The canonical text of a header is that header.
use Rattle.std.proofs.Common.{◌≡◌, ℕ, ◌+◌, ◌-◌, ◌≤◌, ◌&&◌, Bool, true, false, List, [], ◌∷◌, ◌++◌, map, length, length-append, Option, Some, None, refl, sym, ap, ◌∙◌, subst, append_assoc, arith, inl, inr}
use Rattle.std.specs.Prelude.{if◌then◌else◌}
use Rattle.std.specs.List.{flat_map, AllByRecursion}
use Rattle.std.specs.Option.{option_to_list}
use Rattle.std.specs.Str.{bytes_eq}
use Rattle.std.proofs.lemmas.List.{append-nil}
use Rattle.std.proofs.lemmas.Slice.Eq.{bytes_eq-Decides}
use Rattle.apl_symbols.specs.Glyphs.{glyph_of, symbol_of}
use Rattle.apl_symbols.specs.SystemNames.{letters_of}
use Rattle.apl_symbols.specs.declared.symbol.Symbol.TheVariants.{LeftArrow, Semicolon}
use Rattle.apl_symbols.specs.declared.system.SystemName.TheVariants.{Origin}
use Rattle.apl_tokens.specs.declared.class.Class.TheVariants as class
use Rattle.apl_tokens.specs.declared.place.Place.{Place}
use Rattle.apl_tokens.specs.declared.place.Place.TheVariants.{Start}
use Rattle.apl_tokens.specs.declared.token.Kind.{Kind}
use Rattle.apl_tokens.specs.declared.token.Kind.TheVariants.{Constant, Name, System, Symbol}
use Rattle.apl_tokens.specs.declared.token.Token.{Token}
use Rattle.apl_tokens.specs.Characters.{class_of, is_blank, is_in_name}
use Rattle.apl_tokens.specs.Spelling.{class_at, all_blank, IsName, IsSpelled, Ends, may_stand, next_place, Row}
use Rattle.apl_tokens.specs.Brackets.{unmatched}
use Rattle.apl_tokens.specs.Joined.{join_kinds, join, joined}
use Rattle.apl_tokens.specs.Tokens.{token}
use Rattle.apl_defn.specs.Definitions.{Text, Header}
use Rattle.apl_defn.specs.Headers.{kinds, origin, kinds_of, user_names, IsLocal, Heads}
use Rattle.apl_defn.specs.Listing.{canonical}
use Rattle.apl_defn.proofs.Heads.{quad_class, locals_kinds, head}

-- the word of a token of a header
abbrev word_of : Kind → Text
word_of (Name n) = n
word_of (System s) = 0x2395 ∷ letters_of s
word_of (Symbol s) = glyph_of s ∷ []
word_of k = []

-- it ends as names do
abbrev is_word : Kind → Bool
is_word (Name n) = true
is_word (System s) = true
is_word k = false

-- a blank stands between two names
abbrev gap_of : Kind → Bool → Text
gap_of (Name n) true = 32 ∷ []
gap_of k named = []

-- the text of tokens, with no other blanks
abbrev canon : Bool → List Kind → Text
canon named [] = []
canon named (k ∷ ks) = gap_of k named ++ (word_of k ++ canon (is_word k) ks)

-- a token of a header
abbrev IsPlain : Kind → Type 0
IsPlain (Name n) = IsName n
IsPlain (System Origin) = Unit {0}
IsPlain (Symbol LeftArrow) = Unit {0}
IsPlain (Symbol Semicolon) = Unit {0}
IsPlain k = ⊥

abbrev ArePlain : List Kind → Type 0
ArePlain = AllByRecursion IsPlain

-- the classes of the characters that end a name
blank_class : class_of 32 ≡ class.Blank
unfolding class_of
blank_class = refl

arrow_class : class_of 0x2190 ≡ class.Symbol LeftArrow
unfolding class_of symbol_of
arrow_class = refl

semicolon_class : class_of 59 ≡ class.Symbol Semicolon
unfolding class_of symbol_of
semicolon_class = refl

end_class : class_of 0 ≡ class.Other
unfolding class_of symbol_of
end_class = refl

name_ends : (ks : List Kind) → ArePlain ks → is_in_name (class_at (canon true ks)) ≡ false
name_ends [] p = ap is_in_name end_class
name_ends (Name n ∷ ks) p = ap is_in_name blank_class
name_ends (System s ∷ ks) p = ap is_in_name quad_class
name_ends (Symbol LeftArrow ∷ ks) p = ap is_in_name arrow_class
name_ends (Symbol Semicolon ∷ ks) p = ap is_in_name semicolon_class
name_ends (k ∷ ks) p = absurd p.0

plain_spelled : (k : Kind) → IsPlain k → IsSpelled k (word_of k)
plain_spelled (Name n) p = (refl, p)
plain_spelled (System s) p = refl
plain_spelled (Symbol s) p = refl
plain_spelled k p = absurd p

spelled_plain : (k : Kind) (word : Text) → IsPlain k → IsSpelled k word → word ≡ word_of k
spelled_plain (Name n) word p h = h.0
spelled_plain (System s) word p h = h
spelled_plain (Symbol s) word p h = h
spelled_plain k word p h = absurd p

plain_ends : (k : Kind) (ks : List Kind) → IsPlain k → ArePlain ks → Ends k (canon (is_word k) ks)
plain_ends (Name n) ks p q = name_ends ks q
plain_ends (System s) ks p q = name_ends ks q
plain_ends (Symbol LeftArrow) ks p q = refl
plain_ends (Symbol Semicolon) ks p q = refl
plain_ends k ks p q = absurd p

plain_stands : (place : Place) (k : Kind) → IsPlain k → may_stand place k ≡ true
plain_stands place (Name n) p = refl
plain_stands place (System s) p = refl
plain_stands place (Symbol LeftArrow) p = refl
plain_stands place (Symbol Semicolon) p = refl
plain_stands place k p = absurd p

gap_blank : (k : Kind) (named : Bool) → all_blank (gap_of k named) ≡ true
gap_blank (Name n) true = ap (λ c. is_blank c && true) blank_class
gap_blank k named = refl

-- the tokens of the text, whose last character stands before that column
abbrev placed : ℕ → List Kind → List Token
placed end [] = []
placed end (k ∷ ks) = token k (end - length (word_of k ++ canon (is_word k) ks)) ∷ placed end ks

row_placed : (end : ℕ) (place : Place) (named : Bool) (ks : List Kind) → ArePlain ks → length (canon named ks) ≤ end → Row end place (placed end ks) (canon named ks) []
row_placed end place named [] p le = refl
row_placed end place named (k ∷ ks) p le =
    let after = canon (is_word k) ks in
    let few : length (word_of k ++ after) ≤ end = omega (arith, le, length-append (gap_of k named) (word_of k ++ after)) in
    let rest : length after ≤ end = omega (arith, few, length-append (word_of k) after) in
    let at : end - length (word_of k ++ after) + length (word_of k ++ after) ≡ end = omega arith in
    (after, record { gap = gap_of k named; word = word_of k; parts = refl; blank = gap_blank k named; at = at; spelled = plain_spelled k p.0; ends = plain_ends k ks p.0 p.1; stands = plain_stands place k p.0 }, row_placed end (next_place place k) (is_word k) ks p.1 rest)

unpaired : (end : ℕ) (ks : List Kind) → ArePlain ks → unmatched [] (placed end ks) ≡ None
unfolding unmatched
unpaired end [] p = refl
unpaired end (Name n ∷ ks) p = unpaired end ks p.1
unpaired end (System s ∷ ks) p = unpaired end ks p.1
unpaired end (Symbol LeftArrow ∷ ks) p = unpaired end ks p.1
unpaired end (Symbol Semicolon ∷ ks) p = unpaired end ks p.1
unpaired end (k ∷ ks) p = absurd p.0

join_plain : (k : Kind) (at : ℕ) (us : List Token) → IsPlain k → join (token k at) us ≡ token k at ∷ us
join_plain k at [] p = refl
join_plain (Constant ns) at (u ∷ us) p = absurd p
join_plain k at (u ∷ us) p = refl

joined_placed : (end : ℕ) (ks : List Kind) → ArePlain ks → joined (placed end ks) ≡ placed end ks
joined_placed end [] p = refl
joined_placed end (k ∷ ks) p =
    let at = end - length (word_of k ++ canon (is_word k) ks) in
    ap (join (token k at)) (joined_placed end ks p.1) ∙ join_plain k at (placed end ks) p.0

kinds_placed : (end : ℕ) (ks : List Kind) → kinds (placed end ks) ≡ ks
kinds_placed end [] = refl
kinds_placed end (k ∷ ks) = ap (λ js. k ∷ js) (kinds_placed end ks)

-- no text of these tokens is shorter
no_letter : class.Letter ≡ class.Other → ⊥
no_letter e = cc

in_name : (word after : Text) → IsName word → is_in_name (class_at (word ++ after)) ≡ true
in_name [] after h = absurd (no_letter (sym h.letter ∙ end_class))
in_name (c ∷ word) after h = ap is_in_name h.letter

gap_there : (gap word after text : Text) → IsName word → text ≡ gap ++ (word ++ after) → is_in_name (class_at text) ≡ false → 1 ≤ length gap
gap_there [] word after text h e ends =
    let inside = in_name word after h in
    let outside : is_in_name (class_at (word ++ after)) ≡ false = subst (λ (t : Text). is_in_name (class_at t) ≡ false) e ends in
    cc
gap_there (g ∷ gap) word after text h e ends = omega arith

gap_needed : (k : Kind) (named : Bool) (gap word after text : Text) → IsSpelled k word → text ≡ gap ++ (word ++ after) → (named ≡ true → is_in_name (class_at text) ≡ false) → length (gap_of k named) ≤ length gap
gap_needed (Name n) true gap word after text h e ends = gap_there gap word after text (subst IsName (sym h.0) h.1) e (ends refl)
gap_needed k named gap word after text h e ends = omega arith

word_ends : (k : Kind) (after : Text) → IsPlain k → Ends k after → is_word k ≡ true → is_in_name (class_at after) ≡ false
word_ends (Name n) after p h e = h
word_ends (System s) after p h e = h
word_ends k after p h e = cc

shortest : (end : ℕ) (place : Place) (named : Bool) (ts : List Token) (text rest : Text) → ArePlain (kinds ts) → (named ≡ true → is_in_name (class_at text) ≡ false) → Row end place ts text rest → length (canon named (kinds ts)) ≤ length text
shortest end place named [] text rest p ends row = omega arith
shortest end place named (t ∷ ts) text rest p ends row =
    let step = row.1 in
    let after = row.0 in
    let gap = gap_needed t.kind named step.gap step.word after text step.spelled step.parts ends in
    let word : length step.word ≡ length (word_of t.kind) = ap length (spelled_plain t.kind step.word p.0 step.spelled) in
    let later = shortest end (next_place place t.kind) (is_word t.kind) ts after rest p.1 (word_ends t.kind after p.0 step.ends) row.2 in
    let whole : length text ≡ length step.gap + (length step.word + length after) = ap length step.parts ∙ length-append step.gap (step.word ++ after) ∙ ap (λ n. length step.gap + n) (length-append step.word after) in
    let mine = length-append (gap_of t.kind named) (word_of t.kind ++ canon (is_word t.kind) (kinds ts)) in
    let behind = length-append (word_of t.kind) (canon (is_word t.kind) (kinds ts)) in
    omega arith

-- pieces that are no numbers are the tokens
unjoin_kinds : (t : Token) (k : Kind) (u : Token) (j : Kind) (us : List Token) → ArePlain (kinds (join_kinds t k u j us)) → (join_kinds t k u j us ≡ t ∷ u ∷ us) × ArePlain (kinds (u ∷ us))
unjoin_kinds t (Constant ns) u (Constant ms) us p = absurd p.0
unjoin_kinds t k u j us p = (refl, p.1)

unjoin : (t : Token) (us : List Token) → ArePlain (kinds (join t us)) → (join t us ≡ t ∷ us) × ArePlain (kinds us)
unjoin t [] p = (refl, tt)
unjoin t (u ∷ us) p = unjoin_kinds t t.kind u u.kind us p

unjoined : (ps : List Token) → ArePlain (kinds (joined ps)) → joined ps ≡ ps
unjoined [] p = refl
unjoined (t ∷ ps) p = let q = unjoin t (joined ps) p in q.0 ∙ ap (λ us. t ∷ us) (unjoined ps q.1)

-- a header's tokens are such tokens
local_plain : (b : Bool) (w : Text) → bytes_eq w origin ≡ b → IsLocal w → IsPlain (if b then System Origin else Name w)
local_plain true w e h = tt
local_plain false w e (inl o) = let t = (bytes_eq-Decides w origin).1 o in absurd cc
local_plain false w e (inr n) = n

locals_plain : (ws : List Text) → AllByRecursion IsLocal ws → ArePlain (locals_kinds ws)
locals_plain [] h = tt
locals_plain (w ∷ ws) h = (tt, (local_plain (bytes_eq w origin) w refl h.0, locals_plain ws h.1))

right_plain : (right : Option Text) (ws : List Text) → AllByRecursion IsName (option_to_list right) → AllByRecursion IsLocal ws → ArePlain (map Name (option_to_list right) ++ locals_kinds ws)
right_plain None ws p q = locals_plain ws q
right_plain (Some b) ws p q = (p.0, locals_plain ws q)

form_plain : (left : Option Text) (n : Text) (right : Option Text) (ws : List Text) → AllByRecursion IsName (option_to_list left ++ (n ∷ option_to_list right)) → AllByRecursion IsLocal ws → ArePlain (map Name (option_to_list left) ++ (Name n ∷ (map Name (option_to_list right) ++ locals_kinds ws)))
form_plain None n right ws p q = (p.0, right_plain right ws p.1 q)
form_plain (Some l) n right ws p q = (p.0, (p.1.0, right_plain right ws p.1.1 q))

head_plain : (result left : Option Text) (n : Text) (right : Option Text) (ws : List Text) → AllByRecursion IsName (user_names (head result left n right ws)) → AllByRecursion IsLocal ws → ArePlain (kinds_of (head result left n right ws))
head_plain None left n right ws p q = form_plain left n right ws p q
head_plain (Some z) left n right ws p q = (p.0, (tt, form_plain left n right ws p.1 q))

-- the canonical text is that of the header's tokens
local_step : (b : Bool) (w : Text) (ks : List Kind) → bytes_eq w origin ≡ b → canon false ((if b then System Origin else Name w) ∷ ks) ≡ w ++ canon true ks
local_step true w ks e = ap (λ x. x ++ canon true ks) (sym ((bytes_eq-Decides w origin).0 e))
local_step false w ks e = refl

locals_canon : (named : Bool) (ws : List Text) → canon named (locals_kinds ws) ≡ flat_map (λ w. 59 ∷ w) ws
locals_canon named [] = refl
locals_canon named (w ∷ ws) = ap (λ x. 59 ∷ x) (local_step (bytes_eq w origin) w (locals_kinds ws) refl ∙ ap (λ x. w ++ x) (locals_canon true ws))

marked : (word : Text) (mark : ℕ) (after : Text) → word ++ (mark ∷ after) ≡ ((word ++ mark ∷ []) ++ []) ++ after
marked word mark after = sym (ap (λ x. x ++ after) (append-nil (word ++ mark ∷ [])) ∙ append_assoc word (mark ∷ []) after)

right_canon : (right : Option Text) (ws : List Text) → canon true (map Name (option_to_list right) ++ locals_kinds ws) ≡ flat_map (λ b. 32 ∷ b) (option_to_list right) ++ flat_map (λ w. 59 ∷ w) ws
right_canon None ws = locals_canon true ws
right_canon (Some b) ws = ap (λ x. 32 ∷ (b ++ x)) (locals_canon true ws) ∙ ap (λ y. 32 ∷ (y ++ flat_map (λ w. 59 ∷ w) ws)) (sym (append-nil b))

form_canon : (left : Option Text) (n : Text) (right : Option Text) (ws : List Text) → canon false (map Name (option_to_list left) ++ (Name n ∷ (map Name (option_to_list right) ++ locals_kinds ws))) ≡ flat_map (λ a. a ++ 32 ∷ []) (option_to_list left) ++ (n ++ (flat_map (λ b. 32 ∷ b) (option_to_list right) ++ flat_map (λ w. 59 ∷ w) ws))
form_canon None n right ws = ap (λ x. n ++ x) (right_canon right ws)
form_canon (Some l) n right ws = ap (λ x. l ++ (32 ∷ (n ++ x))) (right_canon right ws) ∙ marked l 32 (n ++ (flat_map (λ b. 32 ∷ b) (option_to_list right) ++ flat_map (λ w. 59 ∷ w) ws))

head_canon : (result left : Option Text) (n : Text) (right : Option Text) (ws : List Text) → canon false (kinds_of (head result left n right ws)) ≡ canonical (head result left n right ws)
unfolding canonical
head_canon None left n right ws = form_canon left n right ws
head_canon (Some z) left n right ws = ap (λ x. z ++ (0x2190 ∷ x)) (form_canon left n right ws) ∙ marked z 0x2190 (flat_map (λ a. a ++ 32 ∷ []) (option_to_list left) ++ (n ++ (flat_map (λ b. 32 ∷ b) (option_to_list right) ++ flat_map (λ w. 59 ∷ w) ws)))

pub canonical_heads : (text : Text) (h : Header) → Heads text h → Heads (canonical h) h
canonical_heads text h p =
    let ks = kinds_of h in
    let plain : ArePlain ks = head_plain h.result h.left h.name h.right h.locals p.names p.locals in
    let same : canon false ks ≡ canonical h = head_canon h.result h.left h.name h.right h.locals in
    let there : ArePlain (kinds (joined p.spelled.pieces)) = subst (λ (ts : List Token). ArePlain (kinds ts)) p.spelled.tokens_are (subst ArePlain (sym p.written) plain) in
    let pieces : p.tokens ≡ p.spelled.pieces = p.spelled.tokens_are ∙ unjoined p.spelled.pieces there in
    let written : kinds p.spelled.pieces ≡ ks = ap kinds (sym pieces) ∙ p.written in
    let few : length (canon false (kinds p.spelled.pieces)) ≤ length text = shortest (length text + 1) Start false p.spelled.pieces text p.spelled.spelled.rest (subst ArePlain (sym written) plain) (λ e. cc) p.spelled.spelled.row in
    let fewer : length (canonical h) ≤ length text = subst (λ (t : Text). length t ≤ length text) (ap (canon false) written ∙ same) few in
    let end = length (canonical h) + 1 in
    let fits : length (canon false ks) ≤ end = omega (arith, ap length same) in
    record {
      tokens = placed end ks;
      spelled = record {
        short = omega (arith, fewer, p.spelled.short);
        pieces = placed end ks;
        spelled = record { rest = []; row = subst (λ (t : Text). Row end Start (placed end ks) t []) same (row_placed end Start false ks plain fits); blank = refl };
        balanced = unpaired end ks plain;
        tokens_are = sym (joined_placed end ks plain);
      };
      written = kinds_placed end ks;
      arguments = p.arguments;
      names = p.names;
      locals = p.locals;
    }
