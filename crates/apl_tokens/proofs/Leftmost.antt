-- The fault that is read is the leftmost of all.
use Rattle.std.proofs.Common.{◌≡◌, ℕ, zero, suc, ◌+◌, ◌-◌, ◌<◌, ◌≤◌, Bool, true, false, cond, List, [], ◌∷◌, ◌++◌, length, drop, Option, Some, None, Result, Ok, Err, refl, ap, subst, inl, inr, arith, ltb}
use Rattle.std.specs.Prelude.{All, IfOk, IfErr}
use Rattle.std.specs.declared.vec.Vec.{Vec}
use Rattle.std.specs.declared.alloc.Global.{Global}
use Rattle.std.proofs.lemmas.Bool.Decides.{eqb_tells}
use Rattle.std.proofs.lemmas.List.{length-drop}
use Rattle.std.proofs.lemmas.List.Elements.{All-nil, All-cons, All-append}
use Rattle.apl_tokens.specs.declared.class.Class.{Class}
use Rattle.apl_tokens.specs.declared.class.Class.TheVariants as class
use Rattle.apl_tokens.specs.declared.token.Token.{Token}
use Rattle.apl_tokens.specs.declared.place.Place.{Place}
use Rattle.apl_tokens.specs.declared.place.Place.TheVariants.{Start, Inside}
use Rattle.apl_tokens.specs.declared.reading.Fault.{Fault}
use Rattle.apl_tokens.specs.declared.reading.Fault.TheVariants as fault
use Rattle.apl_tokens.specs.declared.reading.Halt.TheVariants as halt
use Rattle.apl_tokens.specs.declared.line.TokenError.{TokenError}
use Rattle.apl_tokens.specs.declared.line.TokenError.TheVariants.{Quote, Unbalanced, Stray, Limit, TooLong, Memory}
use Rattle.apl_tokens.specs.Characters.{ends_number}
use Rattle.apl_tokens.specs.Spelling.{class_at, next_place}
use Rattle.apl_tokens.specs.Reading.{Reading, next_at}
use Rattle.apl_tokens.specs.Lines.{error_at}
use Rattle.apl_tokens.specs.Brackets.{unmatched}
use Rattle.apl_tokens.specs.Tokens.{Answer, token, with_token, from_reading, from_word, pieces_of, if_balanced, balanced, tokens_of, Reads}
use Rattle.apl_tokens.specs.Faults.{Faults, long_len, long_faults, word_faults, past, at_column, faults_of_reading, faults_of_word, faults_from, faults_of, ComesFirst, IsLeftmost, Leads}
use Rattle.apl_tokens.proofs.Sound.{next_front}
use Rattle.apl_tokens.proofs.Steps.{word_of, word_le, front_len}
use Rattle.apl_tokens.proofs.Sharp.{IsSharp, Sharp, sharp}

weaker : (P Q : Fault × ℕ → Type 0) (faults : Faults) → ((g : Fault × ℕ) → P g → Q g) → All P faults → All Q faults
weaker P Q faults imp h = λ k d lt. imp _ (h k d lt)

-- no fault stands before the text
abbrev From : ℕ → ℕ → Fault × ℕ → Type 0
From end n g = end ≤ g.1 + n

from_column : (column : ℕ) (faults : Faults) → All (λ g. column ≤ g.1) (at_column column faults)
from_column column [] = All-nil _
from_column column (f ∷ faults) = All-cons (λ g. column ≤ g.1) (f.0, column + f.1) (at_column column faults) (omega arith) (from_column column faults)

from_reading-all : (end n : ℕ) (place : Place) (word : List ℕ) (read : Reading) (later : Place → List ℕ → Faults) → length word ≤ n → ((p : Place) (rest : List ℕ) → All (From end (length rest)) (later p rest))
    → All (From end n) (faults_of_reading (end - length word) place word read later)
from_reading-all end n place word (Ok piece) later le all =
    weaker (From end (length (drop piece.1 word))) (From end n) (later (next_place place piece.0) (drop piece.1 word)) (λ g h. omega (arith, h, length-drop piece.1 word)) (all (next_place place piece.0) (drop piece.1 word))
from_reading-all end n place word (Err f) later le all =
    let rest = drop (past f.0 f.1 word) word in
    All-append (From end n) (at_column (end - length word) (word_faults f.0 f.1 word)) (later Inside rest)
    (weaker (λ g. end - length word ≤ g.1) (From end n) (at_column (end - length word) (word_faults f.0 f.1 word)) (λ g h. omega (arith, h)) (from_column (end - length word) (word_faults f.0 f.1 word)))
    (weaker (From end (length rest)) (From end n) (later Inside rest) (λ g h. omega (arith, h, length-drop (past f.0 f.1 word) word)) (all Inside rest))

from_word-all : (end n : ℕ) (place : Place) (word : List ℕ) (later : Place → List ℕ → Faults) → length word ≤ n → ((p : Place) (rest : List ℕ) → All (From end (length rest)) (later p rest)) → All (From end n) (faults_of_word end place word later)
from_word-all end n place [] later le all = All-nil _
from_word-all end n place (c ∷ word) later le all = from_reading-all end n place (c ∷ word) (next_at place (c ∷ word)) later le all

from_all : (n end : ℕ) (place : Place) (text : List ℕ) → All (From end (length text)) (faults_from n end place text)
unfolding faults_from
from_all zero end place text = All-nil _
from_all (suc n) end place text = from_word-all end (length text) place (word_of text) (λ p rest. faults_from n end p rest) (word_le text) (λ p rest. from_all n end p rest)

-- an error leads the faults that are read
abbrev LeadsIn : TokenError → Faults → Type 0
LeadsIn (Quote column) faults = IsLeftmost (fault.Quote, column) faults
LeadsIn (Stray column) faults = IsLeftmost (fault.Stray, column) faults
LeadsIn (Limit column) faults = IsLeftmost (fault.Limit, column) faults
LeadsIn _ faults = ⊥

-- it comes first, and so it is the leftmost
leads_first : (f : Fault × ℕ) (faults : Faults) → All (λ g. ComesFirst f g) faults → IsLeftmost f (f ∷ faults)
leads_first f faults all = record { among = (0, omega arith, refl); first = All-cons (λ g. ComesFirst f g) f faults (inr (refl, inr refl)) all }

stray_first : (column : ℕ) (g : Fault × ℕ) → column ≤ g.1 → ComesFirst (fault.Stray, column) g
stray_first column g le = elim (eqb_tells column g.1) [
  | inl e ↦ inr (e.1, inl refl)
  | inr e ↦ inl (omega (arith, le, e.1))
]

-- behind a number over its limit
stray_after : (f : Fault) (column n : ℕ) (b : Bool) → 0 < n → All (λ g. ComesFirst (f, column + 0) g) (at_column column (cond b [] ((fault.Stray, n) ∷ [])))
stray_after f column n true some = All-nil _
stray_after f column n false some = All-cons (λ g. ComesFirst (f, column + 0) g) (fault.Stray, column + n) [] (inl (omega (arith, some))) (All-nil _)

long_after : (f : Fault) (column : ℕ) (k : Class) (word : List ℕ) (n : ℕ) → 0 < n → All (λ g. ComesFirst (f, column + 0) g) (at_column column (long_faults k word n))
long_after f column class.Letter word n some = All-nil _
long_after f column _ word n some = stray_after f column n (ends_number (class_at (drop n word))) some

leads_fault : (f : Fault) (before column end : ℕ) (word : List ℕ) (later : Faults) → column + length word ≡ end → 0 < length word → IsSharp word f before → All (From end (length (drop (past f before word) word))) later
    → LeadsIn (error_at (halt.Broken f before) column) (at_column column (word_faults f before word) ++ later)
leads_fault fault.Quote before column end word later is some at all =
    leads_first (fault.Quote, column + before) later (weaker (From end (length (drop (length word) word))) (λ g. ComesFirst (fault.Quote, column + before) g) later (λ g h. inl (omega (arith, is, some, at, h, length-drop (length word) word))) all)
leads_fault fault.Stray before column end word later is some at all =
    leads_first (fault.Stray, column + before) later (weaker (From end (length (drop (past fault.Stray before word) word))) (λ g. ComesFirst (fault.Stray, column + before) g) later (λ g h. stray_first (column + before) g (omega (arith, is, at, h, length-drop (past fault.Stray before word) word))) all)
leads_fault fault.Limit before column end word later is some at all =
    let n = long_len (class_at word) word in
    let more : All (λ g. ComesFirst (fault.Limit, column + 0) g) (at_column column (long_faults (class_at word) word n)) = long_after fault.Limit column (class_at word) word n at.1 in
    let rest : All (λ g. ComesFirst (fault.Limit, column + 0) g) later = weaker (From end (length (drop n word))) (λ g. ComesFirst (fault.Limit, column + 0) g) later (λ g h. inl (omega (arith, is, some, at.1, h, length-drop n word))) all in
    subst (λ (m : ℕ). IsLeftmost (fault.Limit, column + m) ((fault.Limit, column + m) ∷ (at_column column (long_faults (class_at word) word n) ++ later))) (let e : 0 ≡ before = omega (arith, at.0) in e)
    (leads_first (fault.Limit, column + 0) (at_column column (long_faults (class_at word) word n) ++ later) (All-append (λ g. ComesFirst (fault.Limit, column + 0) g) (at_column column (long_faults (class_at word) word n)) later more rest))

-- what is read, against all faults
abbrev Led : Faults → Answer → Type 0
Led faults (Ok ts) = faults ≡ []
Led faults (Err e) = LeadsIn e faults

led_token : (faults : Faults) (t : Token) (later : Answer) → Led faults later → Led faults (with_token t later)
led_token faults t (Ok ts) h = h
led_token faults t (Err e) h = h

led_reading : (n end : ℕ) (place : Place) (text : List ℕ) (read : Reading) → length text < suc n → length text < end → 0 < length (word_of text) → next_at place (word_of text) ≡ read
    → ((p : Place) (rest : List ℕ) → length rest < n → length rest < end → Led (faults_from n end p rest) (pieces_of n end p rest))
    → Led (faults_of_reading (end - length (word_of text)) place (word_of text) read (λ p rest. faults_from n end p rest)) (from_reading (end - length (word_of text)) place (word_of text) read (λ p rest. pieces_of n end p rest))
led_reading n end place text (Ok piece) room lt some e all =
    let prefix = front_len place piece.0 piece.1 (word_of text) (next_front place (word_of text) piece.0 piece.1 e) in
    let rest = drop piece.1 (word_of text) in
    let shorter : length rest < length text = omega (arith, prefix, word_le text, length-drop piece.1 (word_of text)) in
    led_token (faults_from n end (next_place place piece.0) rest) (token piece.0 (end - length (word_of text))) (pieces_of n end (next_place place piece.0) rest) (all (next_place place piece.0) rest (omega arith) (omega arith))
led_reading n end place text (Err f) room lt some e all =
    let at : IsSharp (word_of text) f.0 f.1 = subst (λ (r : Reading). Sharp (word_of text) r) e (sharp place (word_of text)) in
    let rest = drop (past f.0 f.1 (word_of text)) (word_of text) in
    leads_fault f.0 f.1 (end - length (word_of text)) end (word_of text) (faults_from n end Inside rest) (omega (arith, word_le text)) some at (from_all n end Inside rest)

led_word : (n end : ℕ) (place : Place) (text word : List ℕ) → length text < suc n → length text < end → word_of text ≡ word → ((p : Place) (rest : List ℕ) → length rest < n → length rest < end → Led (faults_from n end p rest) (pieces_of n end p rest))
    → Led (faults_of_word end place word (λ p rest. faults_from n end p rest)) (from_word end place word (λ p rest. pieces_of n end p rest))
led_word n end place text [] room lt is all = refl
led_word n end place text (c ∷ word) room lt is all =
    let some : 0 < length (word_of text) = omega (arith, ap length is) in
    let led = led_reading n end place text (next_at place (word_of text)) room lt some refl all in
    subst (λ (w : List ℕ). Led (faults_of_reading (end - length w) place w (next_at place w) (λ p rest. faults_from n end p rest)) (from_reading (end - length w) place w (next_at place w) (λ p rest. pieces_of n end p rest))) is led

led : (n end : ℕ) (place : Place) (text : List ℕ) → length text < n → length text < end → Led (faults_from n end place text) (pieces_of n end place text)
unfolding faults_from pieces_of
led zero end place text room lt = absurd (omega arith)
led (suc n) end place text room lt = led_word n end place text (word_of text) room lt refl (λ p rest short less. led n end p rest short less)

-- what the answer for a text says of its faults
abbrev pub Decides : List ℕ → Answer → Type 0
Decides text (Ok ts) = faults_of text ≡ []
Decides text (Err e) = Leads e text

leads_in : (text : List ℕ) (e : TokenError) → LeadsIn e (faults_of text) → Leads e text
leads_in text (Quote column) h = h
leads_in text (Stray column) h = h
leads_in text (Limit column) h = h
leads_in text _ h = absurd h

decides_balanced : (text : List ℕ) (ps : List Token) (unpaired : Option ℕ) → faults_of text ≡ [] → Decides text (if_balanced ps unpaired)
decides_balanced text ps None h = h
decides_balanced text ps (Some column) h = h

decides_pieces : (text : List ℕ) (read : Answer) → Led (faults_of text) read → Decides text (balanced read)
decides_pieces text (Ok ps) h = decides_balanced text ps (unmatched [] ps) h
decides_pieces text (Err e) h = leads_in text e h

decides_length : (text : List ℕ) (long : Bool) → Decides text (cond long (Err (TooLong 501)) (balanced (pieces_of (length text + 1) (length text + 1) Start text)))
decides_length text true = tt
decides_length text false = decides_pieces text (pieces_of (length text + 1) (length text + 1) Start text) (led (length text + 1) (length text + 1) Start text (omega arith) (omega arith))

pub answer_decides : (text : List ℕ) → Decides text (tokens_of text)
unfolding tokens_of
answer_decides text = decides_length text (ltb 500 (length text))

pub answer_leads : (text : List ℕ) (e : TokenError) → tokens_of text ≡ Err e → Leads e text
answer_leads text e is = subst (λ (a : Answer). Decides text a) is (answer_decides text)

pub answer_faultless : (text : List ℕ) (ts : List Token) → tokens_of text ≡ Ok ts → faults_of text ≡ []
answer_faultless text ts is = subst (λ (a : Answer). Decides text a) is (answer_decides text)

-- the same of what a function returned
pub result_leads : (text : List ℕ) (result : Result (Vec Token Global) TokenError) → Reads result (tokens_of text) → IfErr result (λ e. Leads e text)
result_leads text (Ok v) reads = tt
result_leads text (Err (Quote column)) reads = answer_leads text (Quote column) reads
result_leads text (Err (Stray column)) reads = answer_leads text (Stray column) reads
result_leads text (Err (Limit column)) reads = answer_leads text (Limit column) reads
result_leads text (Err (Unbalanced column)) reads = answer_leads text (Unbalanced column) reads
result_leads text (Err (TooLong column)) reads = tt
result_leads text (Err Memory) reads = tt

pub result_faultless : (text : List ℕ) (result : Result (Vec Token Global) TokenError) → Reads result (tokens_of text) → IfOk result (λ v. faults_of text ≡ [])
result_faultless text (Ok v) reads = answer_faultless text v.items reads
result_faultless text (Err e) reads = tt
