-- How a line is read. Reading is generous: what is read is compared with the line that it has.
-- A listing that is read so and written again is that of `Listing`, else it is refused.
use Rattle.std.specs.Prelude.{ℕ, ◌+◌, ◌-◌, ◌*◌, ◌==◌, nat_le, min, length, drop, if◌then◌else◌}
use Rattle.std.specs.Prelude.{List, [], ◌∷◌, map, Option, Some, None, option_map, codes}
use Rattle.std.specs.List.{insert}
use Rattle.std.specs.Str.{bytes_eq}
use Rattle.apl_symbols.specs.Glyphs.{symbol_of}
use Rattle.apl_symbols.specs.Names.{is_short_enough}
use Rattle.apl_symbols.specs.SystemNames.{system_named}
use Rattle.apl_symbols.specs.declared.primitive.Operator.{Operator}
use Rattle.apl_symbols.specs.declared.primitive.Operator.TheVariants as operator
use Rattle.apl_symbols.specs.declared.symbol.Symbol.{Symbol}
use Rattle.apl_symbols.specs.declared.symbol.Symbol.TheVariants as symbol
use Rattle.apl_code.specs.Names.{is_letter}
use Rattle.apl_code.specs.declared.instr.Source.{Source}
use Rattle.apl_code.specs.declared.instr.Source.TheVariants.{Constant, Stack}
use Rattle.apl_code.specs.declared.instr.Action.{Action}
use Rattle.apl_code.specs.declared.instr.Action.TheVariants.{Box, Phrase, End}
use Rattle.apl_code.specs.declared.instr.Instr.{Instr}
use Rattle.apl_code.specs.declared.row.Ending.{Ending}
use Rattle.apl_code.specs.declared.row.Ending.TheVariants.{Branch, Escape, Shown, Hidden, Nothing, Fail}
use Rattle.apl_code.specs.declared.row.Function.{Function}
use Rattle.apl_code.specs.declared.row.Function.TheVariants as function
use Rattle.apl_code.specs.declared.row.Variable.{Variable}
use Rattle.apl_code.specs.declared.row.Variable.TheVariants as variable
use Rattle.apl_code.specs.declared.row.Row.{Row}
use Rattle.apl_code.specs.declared.row.Row.TheVariants.{Group, Read, Call, Select, Monadic, MonadicAxis, Reduce, ReduceAxis}
use Rattle.apl_code.specs.declared.row.Row.TheVariants.{Dyadic, DyadicAxis, Inner, Outer, Assign, AssignIndexed, Show}
use Rattle.apl_listing.specs.Listing.{fields, action_words, action_list}

-- the characters before the first mark, and those after it
abbrev pub until : ℕ → List ℕ → List ℕ
until mark [] = []
until mark (c ∷ cs) = if c == mark then [] else c ∷ until mark cs

abbrev pub past : ℕ → List ℕ → List ℕ
past mark [] = []
past mark (c ∷ cs) = if c == mark then cs else past mark cs

-- a character before the first word
abbrev pub onto : ℕ → List (List ℕ) → List (List ℕ)
onto c [] = (c ∷ []) ∷ []
onto c (w ∷ ws) = (c ∷ w) ∷ ws

-- the words of a text, each ended by a blank
abbrev pub words : List ℕ → List (List ℕ)
words [] = []
words (c ∷ cs) = if c == 32 then [] ∷ words cs else onto c (words cs)

infixl 10 ◌>>=◌
abbrev pub ◌>>=◌ : {A B : Type 0} → Option A → (A → Option B) → Option B
(Some x) >>= f = f x
None >>= f = None

-- the number of at most three digits, without a test
abbrev pub number_of : List ℕ → ℕ
number_of (a ∷ []) = a - 48
number_of (a ∷ b ∷ []) = 10 * (a - 48) + (b - 48)
number_of (a ∷ b ∷ c ∷ []) = 100 * (a - 48) + 10 * (b - 48) + (c - 48)
number_of ds = 0

abbrev pub source_of : List ℕ → Option Source
source_of [] = None
source_of (c ∷ cs) = if c == 83 then Some Stack else (if c == 35 then Some (Constant (number_of cs)) else None)

-- a word as a name, if it is short enough for one
abbrev pub name_of : List ℕ → Option (List ℕ)
name_of w = if is_short_enough w then Some w else None

abbrev pub primitive_in : Option Symbol → Option Function
primitive_in (Some (symbol.Primitive p)) = Some (function.Primitive p)
primitive_in s = None

abbrev pub function_of : List ℕ → Option Function
function_of [] = None
function_of (c ∷ cs) =
    if is_letter c then (name_of (c ∷ cs) >>= λ n. Some (function.Name n))
    else (if c == 0x2395 then (system_named cs >>= λ s. Some (function.System s))
    else primitive_in (symbol_of c))

abbrev pub variable_of : List ℕ → Option Variable
variable_of [] = None
variable_of (c ∷ cs) =
    if is_letter c then (name_of (c ∷ cs) >>= λ n. Some (variable.Name n))
    else (system_named cs >>= λ s. Some (variable.System s))

abbrev pub operator_of : List ℕ → Operator
operator_of [] = operator.SlopeBar
operator_of (c ∷ cs) =
    if c == 0x2F then operator.Slash
    else (if c == 0x233F then operator.SlashBar
    else (if c == 0x5C then operator.Slope else operator.SlopeBar))

-- the actions by their names, and by the words behind them
abbrev pub shown : List ℕ → Ending
shown word = if bytes_eq word (codes "SHOW") then Shown else (if bytes_eq word (codes "HIDE") then Hidden else Nothing)

abbrev pub ending_named : List ℕ → List ℕ → Option Ending
ending_named name word =
    if bytes_eq name (codes "BRA") then Some Branch
    else (if bytes_eq name (codes "ESC") then Some Escape
    else (if bytes_eq name (codes "FAIL") then Some Fail
    else (if bytes_eq name (codes "END") then Some (shown word) else None)))

abbrev pub plain_named : List ℕ → List ℕ → Option Action
plain_named name word =
    if bytes_eq name (codes "BOX") then Some Box
    else (if bytes_eq name (codes "IDX") then Some (Phrase Select)
    else (if bytes_eq name (codes "GRP") then Some (Phrase Group)
    else (if bytes_eq name (codes "SHOW") then Some (Phrase Show)
    else option_map End (ending_named name word))))

-- a row, or the one with an axis where the word says so
abbrev pub along : List ℕ → Row → Row → Row
along word plain axis = if bytes_eq word (codes "K") then axis else plain

abbrev pub function_named : List ℕ → Function → List ℕ → List ℕ → Option Row
function_named name f second third =
    if bytes_eq name (codes "MON") then Some (along second (Monadic f) (MonadicAxis f))
    else (if bytes_eq name (codes "DYA") then Some (along second (Dyadic f) (DyadicAxis f))
    else (if bytes_eq name (codes "OUT") then Some (Outer f)
    else (if bytes_eq name (codes "INN") then (function_of second >>= λ g. Some (Inner f g))
    else Some (along third (Reduce f (operator_of second)) (ReduceAxis f (operator_of second))))))

abbrev pub row_named : List ℕ → List ℕ → List ℕ → List ℕ → Option Row
row_named name first second third =
    if bytes_eq name (codes "VAR") then option_map Read (variable_of first)
    else (if bytes_eq name (codes "NIL") then option_map Call (variable_of first)
    else (if bytes_eq name (codes "SET") then option_map Assign (variable_of first)
    else (if bytes_eq name (codes "SETX") then option_map AssignIndexed (variable_of first)
    else (function_of first >>= λ f. function_named name f second third))))

abbrev pub or_else : {A : Type 0} → Option A → Option A → Option A
or_else (Some x) o = Some x
or_else None o = o

abbrev pub action_of : List ℕ → List ℕ → List ℕ → List ℕ → Option Action
action_of name first second third = or_else (plain_named name first) (option_map Phrase (row_named name first second third))

-- the action that a text begins with: its name, and the next three words
abbrev pub action_at : List ℕ → Option Action
action_at text = action_of (until 32 text) (until 32 (past 32 text)) (until 32 (past 32 (past 32 text))) (until 32 (past 32 (past 32 (past 32 text))))

-- what follows the words of an action
abbrev pub behind : Action → List ℕ → List ℕ
behind a text = drop (min (length (fields (action_words a) [])) (length text)) text

-- operands with the index list that isn't written
abbrev pub refilled : Option ℕ → List (Option Source) → Option (List (Option Source))
refilled None ss = Some ss
refilled (Some p) ss = if nat_le p (length ss) then Some (insert ss p (Some Stack)) else None

-- the instruction of a line without its number: prefix stands before the @, and place behind it
abbrev pub instr_of : List ℕ → List ℕ → Action → Option Instr
instr_of prefix place a = refilled (action_list a) (map source_of (words (behind a prefix))) >>= λ ss. Some (record { action = a; arguments = ss; at = number_of place })

abbrev pub instr_at : List ℕ → Option Instr
instr_at text = action_at (until 64 text) >>= instr_of (until 64 text) (past 64 text)
