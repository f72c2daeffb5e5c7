-- Where tokens stand.
use Rattle.std.proofs.Common.{◌≡◌, ℕ, ◌+◌, ◌<◌, ◌≤◌, Bool, true, false, List, [], ◌∷◌, ◌++◌, length, ap, ◌∙◌, arith, length-append}
use Rattle.std.specs.Prelude.{Result, Ok, Err, IfOk}
use Rattle.apl_tokens.specs.declared.class.Class.TheVariants as class
use Rattle.apl_tokens.specs.declared.token.Kind.{Kind}
use Rattle.apl_tokens.specs.declared.token.Kind.TheVariants as kind
use Rattle.apl_tokens.specs.declared.token.Token.{Token}
use Rattle.apl_tokens.specs.declared.line.TokenError.{TokenError}
use Rattle.apl_tokens.specs.declared.place.Place.{Place}
use Rattle.apl_tokens.specs.declared.place.Place.TheVariants.{Start}
use Rattle.apl_tokens.specs.Spelling.{class_at, signed, IsSpelled, next_place, Step, Row}
use Rattle.apl_tokens.specs.Joined.{join_kinds, join, joined}
use Rattle.apl_tokens.specs.Lines.{Spells, Ascend}
use Rattle.apl_tokens.proofs.Classes.{no_class}

-- every token has a character
signed_some : (negative : Bool) (digits : List ℕ) → 0 < length digits → 0 < length (signed negative digits)
signed_some true digits some = omega arith
signed_some false digits some = some

name_some : (word : List ℕ) → class_at word ≡ class.Letter → 0 < length word
name_some [] letter = absurd (let end = no_class in cc)
name_some (c ∷ word) letter = omega arith

pub word_some : (k : Kind) (word : List ℕ) → IsSpelled k word → 0 < length word
word_some (kind.Constant []) word h = absurd h
word_some (kind.Constant (n ∷ [])) word h = rw h.word_is (signed_some h.negative h.digits h.some)
word_some (kind.Constant (n ∷ m ∷ ns)) word h = absurd h
word_some (kind.Text text) word h = rw h (omega arith)
word_some (kind.Name name) word h = rw h.0 (name_some name h.1.letter)
word_some (kind.Comment text) word h = rw h (omega arith)
word_some (kind.System s) word h = rw h (omega arith)
word_some (kind.Symbol s) word h = rw h (omega arith)

-- the columns of the pieces ascend
pub row_ascends : (end low : ℕ) (place : Place) (ts : List Token) (text rest : List ℕ) → end ≤ 501 → low + length text < end → Row end place ts text rest → Ascend low ts
row_ascends end low place [] text rest le lt row = tt
row_ascends end low place (t ∷ ts) text rest le lt row =
    let s : Step end place t text row.0 = row.1 in
    let some = word_some t.kind s.word s.spelled in
    let both = length-append s.word row.0 in
    let whole : length text ≡ length s.gap + length (s.word ++ row.0) = ap length s.parts ∙ length-append s.gap (s.word ++ row.0) in
    (omega (arith, s.at, whole, both, some), omega (arith, s.at, both, some), row_ascends end t.at (next_place place t.kind) ts row.0 rest le (omega (arith, s.at, both, some)) row.2)

ascend_lower : (m n : ℕ) (ts : List Token) → m ≤ n → Ascend n ts → Ascend m ts
ascend_lower m n [] le h = tt
ascend_lower m n (t ∷ ts) le h = (omega arith, h.1, h.2)

join_ascends : (low : ℕ) (t : Token) (k : Kind) (u : Token) (l : Kind) (us : List Token) → low < t.at → t.at ≤ 500 → Ascend t.at (u ∷ us) → Ascend low (join_kinds t k u l us)
join_ascends low t (kind.Constant ns) u (kind.Constant ms) us lt le h = (lt, le, ascend_lower t.at u.at us (omega (arith, h.0)) h.2)
join_ascends low t (kind.Constant ns) u _ us lt le h = (lt, le, h)
join_ascends low t _ u l us lt le h = (lt, le, h)

joined_onto : (low : ℕ) (t : Token) (us : List Token) → low < t.at → t.at ≤ 500 → Ascend t.at us → Ascend low (join t us)
joined_onto low t [] lt le h = (lt, le, tt)
joined_onto low t (u ∷ us) lt le h = join_ascends low t t.kind u u.kind us lt le h

joined_ascends : (low : ℕ) (ts : List Token) → Ascend low ts → Ascend low (joined ts)
joined_ascends low [] h = tt
joined_ascends low (t ∷ ts) h = joined_onto low t (joined ts) h.0 h.1 (joined_ascends t.at ts h.2)

pub tokens_ascend : (text : List ℕ) (ts : List Token) → Spells ts text → Ascend 0 ts
tokens_ascend text ts p = rw p.tokens_are (joined_ascends 0 p.pieces (row_ascends _ 0 Start p.pieces text p.spelled.rest (omega (arith, p.short)) (omega arith) p.spelled.row))

-- ascending columns are few
pub ascend_few : (low : ℕ) (ts : List Token) → low ≤ 500 → Ascend low ts → low + length ts ≤ 500
ascend_few low [] le h = omega arith
ascend_few low (t ∷ ts) le h = omega (arith, h.0, ascend_few t.at ts h.1 h.2)

pub tokens_few : (text : List ℕ) (ts : List Token) → Spells ts text → length ts ≤ 500
tokens_few text ts p = omega (arith, ascend_few 0 ts (omega arith) (tokens_ascend text ts p))

-- what is said of each list that spells a text is said of the answer
pub of_answer : {A : Type 0} (items : A → List Token) (P : List Token → Type 0) (text : List ℕ) (answer : Result A TokenError) → ((ts : List Token) → Spells ts text → P ts) → IfOk answer (λ v. Spells (items v) text) → IfOk answer (λ v. P (items v))
of_answer items P text (Ok v) all h = all (items v) h
of_answer items P text (Err e) all h = tt
