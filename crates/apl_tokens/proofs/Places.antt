-- The column of a fault is one of the line, or the one after its longest.
use Rattle.std.proofs.Common.{ℕ, ◌+◌, ◌≤◌, Bool, true, false, not, ◌&&◌, cond, List, [], ◌∷◌, ◌++◌, length, take, drop, Option, Some, None, Result, Ok, Err, ap, subst, ◌∙◌, arith, length-append, eqb, leb}
use Rattle.std.specs.Prelude.{IfErr}
use Rattle.std.proofs.lemmas.List.Sums.{prefix_len-le-length}
use Rattle.std.specs.Str.Parse.{digits_value}
use Rattle.apl_symbols.specs.declared.symbol.Symbol.{Symbol}
use Rattle.apl_symbols.specs.declared.system.SystemName.{SystemName}
use Rattle.apl_symbols.specs.SystemNames.{system_named}
use Rattle.apl_tokens.specs.declared.class.Class.{Class}
use Rattle.apl_tokens.specs.declared.class.Class.TheVariants as class
use Rattle.apl_tokens.specs.declared.token.Kind.TheVariants as kind
use Rattle.apl_tokens.specs.declared.token.Token.{Token}
use Rattle.apl_tokens.specs.declared.place.Place.{Place}
use Rattle.apl_tokens.specs.declared.place.Place.TheVariants.{Start}
use Rattle.apl_tokens.specs.declared.brackets.Side.{Side}
use Rattle.apl_tokens.specs.declared.brackets.Side.TheVariants.{Opens, Closes, Neither}
use Rattle.apl_tokens.specs.declared.reading.Fault.{Fault}
use Rattle.apl_tokens.specs.declared.reading.Fault.TheVariants as fault
use Rattle.apl_tokens.specs.declared.reading.Run.TheVariants as run
use Rattle.apl_tokens.specs.declared.line.TokenError.{TokenError}
use Rattle.apl_tokens.specs.declared.line.TokenError.TheVariants.{Quote, Unbalanced, Stray, Limit, TooLong, Memory}
use Rattle.apl_tokens.specs.Characters.{class_of, is_digit, is_letter, ends_number}
use Rattle.apl_tokens.specs.Spelling.{class_at, in_range, is_quad, is_colon, is_named, next_place, Row}
use Rattle.apl_tokens.specs.Reading.{Reading, run_len, sign_len, number_of_len, number_at, name_at, body_at, as_text, text_at, as_system, quad_at, symbol_at, next_of, next_at}
use Rattle.apl_tokens.specs.Brackets.{kind_side, same_bracket, Open, after_side, unmatched}
use Rattle.apl_tokens.specs.Lines.{place_after, BreaksAt, LeavesOpen, IsFault, Ascend}
use Rattle.apl_tokens.specs.Tokens.{IsPlaced}
use Rattle.apl_tokens.proofs.Columns.{row_ascends}

-- a fault stands after no more than n characters
abbrev Within : ℕ → Reading → Type 0
Within n (Ok piece) = Unit {0}
Within n (Err fault) = fault.1 ≤ n

within_more : (m n : ℕ) (read : Reading) → m ≤ n → Within m read → Within n read
within_more m n (Ok piece) le h = tt
within_more m n (Err fault) le h = omega arith

within_cond : (n : ℕ) (b : Bool) (x y : Reading) → Within n x → Within n y → Within n (cond b x y)
within_cond n true x y h i = h
within_cond n false x y h i = i

number_within-len : (negative : Bool) (rest : List ℕ) (n : ℕ) → Within (sign_len negative + n) (number_of_len negative rest n)
number_within-len negative rest n =
    within_cond _ (eqb n 0) _ _ (omega arith)
    (within_cond _ (in_range negative (digits_value 10 (take n rest))) _ _ (within_cond _ (ends_number (class_at (drop n rest))) _ _ tt (omega arith)) (omega arith))

number_within : (negative : Bool) (rest : List ℕ) → Within (sign_len negative + length rest) (number_at negative rest)
unfolding number_at
number_within negative rest =
    let len = run_len run.Digits rest in
    let le : len ≤ length rest = prefix_len-le-length (λ c. is_digit (class_of c)) rest in
    within_more (sign_len negative + len) (sign_len negative + length rest) (number_of_len negative rest len) (omega arith) (number_within-len negative rest len)

name_within : (n : ℕ) (rest : List ℕ) → Within n (name_at rest)
unfolding name_at
name_within n rest = within_cond n (leb (run_len run.Name rest) 32) _ _ tt (omega arith)

text_within : (n : ℕ) (body : Option (List ℕ × ℕ)) → Within n (as_text body)
text_within n None = omega arith
text_within n (Some body) = tt

system_within : (n : ℕ) (name : Option SystemName) (m : ℕ) → Within n (as_system name m)
system_within n None m = omega arith
system_within n (Some name) m = tt

quad_within : (n : ℕ) (rest : List ℕ) → Within n (quad_at rest)
unfolding quad_at
quad_within n rest = within_cond n (is_letter (class_at rest)) _ _ (system_within n (system_named (take (run_len run.Name rest) rest)) (run_len run.Name rest)) tt

symbol_within : (n : ℕ) (symbol : Symbol) (place : Place) (rest : List ℕ) → Within n (symbol_at symbol place rest)
unfolding symbol_at
symbol_within n symbol place rest =
    let misplaced = is_colon symbol && not (is_named place) in
    let stray : Reading = Err (fault.Stray, 0) in
    let one : Reading = Ok (kind.Symbol symbol, 1) in
    within_cond n (is_quad symbol) (quad_at rest) (cond misplaced stray one) (quad_within n rest) (within_cond n misplaced stray one (omega arith) tt)

next_within-of : (k : Class) (place : Place) (c : ℕ) (rest : List ℕ) → Within (length (c ∷ rest)) (next_of k place c rest)
unfolding next_of text_at
next_within-of class.Digit place c rest = within_more (0 + length (c ∷ rest)) (length (c ∷ rest)) (number_at false (c ∷ rest)) (omega arith) (number_within false (c ∷ rest))
next_within-of class.Minus place c rest = within_more (1 + length rest) (length (c ∷ rest)) (number_at true rest) (omega arith) (number_within true rest)
next_within-of class.Quote place c rest = text_within (length (c ∷ rest)) (body_at false rest)
next_within-of class.Letter place c rest = name_within (length (c ∷ rest)) (c ∷ rest)
next_within-of class.Lamp place c rest = tt
next_within-of (class.Symbol symbol) place c rest = symbol_within (length (c ∷ rest)) symbol place rest
next_within-of class.Other place c rest = omega arith
next_within-of class.Blank place c rest = omega arith

next_within : (place : Place) (text : List ℕ) → Within (length text) (next_at place text)
unfolding next_at
next_within place [] = omega arith
next_within place (c ∷ rest) = next_within-of (class_of c) place c rest

-- what is left of a text is no longer than the text
row_shorter : (end : ℕ) (place : Place) (ts : List Token) (text rest : List ℕ) → Row end place ts text rest → length rest ≤ length text
row_shorter end place [] text rest row = omega (arith, ap length row)
row_shorter end place (t ∷ ts) text rest row =
    let s = row.1 in
    let word = length-append s.word row.0 in
    let parts = ap length s.parts ∙ length-append s.gap (s.word ++ row.0) in
    let more = row_shorter end (next_place place t.kind) ts row.0 rest row.2 in
    omega arith

abbrev Placed : ℕ → Type 0
Placed column = (1 ≤ column) × (column ≤ 501)

break_placed : (text rest : List ℕ) (place : Place) (f : Fault) (column : ℕ) → length text ≤ 500 → length rest ≤ length text → BreaksAt (length text + 1) place rest f column → Placed column
break_placed text rest place f column short le b =
    let within : b.after ≤ length b.rest = subst (λ (r : Reading). Within (length b.rest) r) b.breaks (next_within place b.rest) in
    let parts = ap length b.parts ∙ length-append b.gap b.rest in
    let is = b.column_is in
    (omega arith, omega arith)

-- the column that a bracket leaves, if it leaves one
abbrev PlacedIf : Option ℕ → Type 0
PlacedIf None = Unit {0}
PlacedIf (Some column) = Placed column

abbrev AllPlaced : Open → Type 0
AllPlaced [] = Unit {0}
AllPlaced (o ∷ open_ones) = Placed o.1 × AllPlaced open_ones

either_placed : (b : Bool) (x y : Option ℕ) → PlacedIf x → PlacedIf y → PlacedIf (cond b x y)
either_placed true x y h i = h
either_placed false x y h i = i

side_placed : (side : Side) (column : ℕ) (open_ones : Open) (next : Open → Option ℕ) → Placed column → AllPlaced open_ones → ((o : Open) → AllPlaced o → PlacedIf (next o)) → PlacedIf (after_side side column open_ones next)
side_placed Neither column open_ones next p all h = h open_ones all
side_placed (Opens bracket) column open_ones next p all h = h ((bracket, column) ∷ open_ones) (p, all)
side_placed (Closes bracket) column [] next p all h = p
side_placed (Closes bracket) column (o ∷ open_ones) next p all h = either_placed (same_bracket bracket o.0) (next open_ones) (Some column) (h open_ones all.1) p

unmatched_placed : (open_ones : Open) (low : ℕ) (ts : List Token) → AllPlaced open_ones → Ascend low ts → PlacedIf (unmatched open_ones ts)
unfolding unmatched
unmatched_placed [] low [] all up = tt
unmatched_placed (o ∷ open_ones) low [] all up = all.0
unmatched_placed open_ones low (t ∷ ts) all up = side_placed (kind_side t.kind) t.at open_ones (λ o. unmatched o ts) (omega (arith, up.0), omega (arith, up.1)) all (λ o every. unmatched_placed o t.at ts every up.2)

open_placed : (text : List ℕ) (column : ℕ) → LeavesOpen text column → Placed column
open_placed text column l =
    let up = row_ascends _ 0 Start l.pieces text l.spelled.rest (omega (arith, l.short)) (omega arith) l.spelled.row in
    subst (λ (o : Option ℕ). PlacedIf o) l.unbalanced (unmatched_placed [] 0 l.pieces tt up)

pub fault_placed : (text : List ℕ) (e : TokenError) → IsFault text e → IsPlaced e
fault_placed text (Quote column) f = break_placed text f.1.rest (place_after Start f.1.pieces) fault.Quote column f.0 (row_shorter _ Start f.1.pieces text f.1.rest f.1.row) f.1.breaks
fault_placed text (Stray column) f = break_placed text f.1.rest (place_after Start f.1.pieces) fault.Stray column f.0 (row_shorter _ Start f.1.pieces text f.1.rest f.1.row) f.1.breaks
fault_placed text (Limit column) f = break_placed text f.1.rest (place_after Start f.1.pieces) fault.Limit column f.0 (row_shorter _ Start f.1.pieces text f.1.rest f.1.row) f.1.breaks
fault_placed text (Unbalanced column) f = open_placed text column f
fault_placed text (TooLong column) f = (omega (arith, f.1), omega (arith, f.1))
fault_placed text Memory f = tt

pub faults_placed : {A : Type 0} (text : List ℕ) (result : Result A TokenError) → IfErr result (λ e. IsFault text e) → IfErr result (λ e. IsPlaced e)
faults_placed text (Ok v) f = tt
faults_placed text (Err e) f = fault_placed text e f
