-- The listing of a code.
use Rattle.std.specs.Prelude.{ℕ, ◌+◌, List, [], ◌∷◌, ◌++◌, map, Option, Some, None, codes, decimal}
use Rattle.std.specs.List.{remove}
use Rattle.apl_charset.specs.Text.{bytes}
use Rattle.apl_symbols.specs.Glyphs.{primitive_glyph}
use Rattle.apl_symbols.specs.SystemNames.{letters_of}
use Rattle.apl_symbols.specs.declared.primitive.Operator.{Operator}
use Rattle.apl_symbols.specs.declared.primitive.Operator.TheVariants as operator
use Rattle.apl_symbols.specs.declared.system.SystemName.{SystemName}
use Rattle.apl_code.specs.declared.instr.Source.{Source}
use Rattle.apl_code.specs.declared.instr.Source.TheVariants.{Constant, Stack}
use Rattle.apl_code.specs.declared.instr.Action.{Action}
use Rattle.apl_code.specs.declared.instr.Action.TheVariants.{Box, Phrase, End}
use Rattle.apl_code.specs.declared.instr.Instr.{Instr}
use Rattle.apl_code.specs.declared.row.Ending.{Ending}
use Rattle.apl_code.specs.declared.row.Ending.TheVariants.{Branch, Escape, Shown, Hidden, Nothing, Fail}
use Rattle.apl_code.specs.declared.row.Function.{Function}
use Rattle.apl_code.specs.declared.row.Function.TheVariants as function
use Rattle.apl_code.specs.declared.row.Variable.{Variable}
use Rattle.apl_code.specs.declared.row.Variable.TheVariants as variable
use Rattle.apl_code.specs.declared.row.Row.{Row}
use Rattle.apl_code.specs.declared.row.Row.TheVariants.{Group, Index, Read, Call, Select, Monadic, MonadicAxis, Reduce}
use Rattle.apl_code.specs.declared.row.Row.TheVariants.{ReduceAxis, Dyadic, DyadicAxis, Inner, Outer, Assign, AssignIndexed, Show}

-- words, a blank behind each, and what follows them
abbrev pub fields : List (List ℕ) → List ℕ → List ℕ
fields [] rest = rest
fields (w ∷ ws) rest = w ++ 32 ∷ fields ws rest

-- a system name: its letters behind the quad
abbrev pub system_word : SystemName → List ℕ
system_word s = 0x2395 ∷ letters_of s

abbrev pub function_word : Function → List ℕ
function_word (function.Primitive p) = primitive_glyph p ∷ []
function_word (function.Name n) = n
function_word (function.System s) = system_word s

abbrev pub variable_word : Variable → List ℕ
variable_word (variable.Name n) = n
variable_word (variable.System s) = system_word s

-- the glyph of an operator: / ⌿ \ ⍀
abbrev pub operator_glyph : Operator → ℕ
operator_glyph operator.Slash = 0x2F
operator_glyph operator.SlashBar = 0x233F
operator_glyph operator.Slope = 0x5C
operator_glyph operator.SlopeBar = 0x2340

-- / and ⌿ reduce, \ and ⍀ scan
abbrev pub operator_name : Operator → List ℕ
operator_name operator.Slash = codes "RED"
operator_name operator.SlashBar = codes "RED"
operator_name operator.Slope = codes "SCN"
operator_name operator.SlopeBar = codes "SCN"

-- a reduction or a scan: its name, the function and the operator
abbrev pub operator_words : Function → Operator → List (List ℕ)
operator_words f m = operator_name m ∷ function_word f ∷ (operator_glyph m ∷ []) ∷ []

-- what a row does: its functions or its variable behind a name, and K where it has an axis
abbrev pub row_words : Row → List (List ℕ)
row_words Group = codes "GRP" ∷ []
row_words (Index n) = codes "BOX" ∷ []
row_words (Read v) = codes "VAR" ∷ variable_word v ∷ []
row_words (Call n) = codes "NIL" ∷ variable_word n ∷ []
row_words Select = codes "IDX" ∷ []
row_words (Monadic f) = codes "MON" ∷ function_word f ∷ []
row_words (MonadicAxis f) = codes "MON" ∷ function_word f ∷ codes "K" ∷ []
row_words (Reduce f m) = operator_words f m
row_words (ReduceAxis f m) = operator_words f m ++ codes "K" ∷ []
row_words (Dyadic f) = codes "DYA" ∷ function_word f ∷ []
row_words (DyadicAxis f) = codes "DYA" ∷ function_word f ∷ codes "K" ∷ []
row_words (Inner f g) = codes "INN" ∷ function_word f ∷ function_word g ∷ []
row_words (Outer g) = codes "OUT" ∷ function_word g ∷ []
row_words (Assign v) = codes "SET" ∷ variable_word v ∷ []
row_words (AssignIndexed v) = codes "SETX" ∷ variable_word v ∷ []
row_words Show = codes "SHOW" ∷ []

-- how a line ends
abbrev pub ending_words : Ending → List (List ℕ)
ending_words Branch = codes "BRA" ∷ []
ending_words Escape = codes "ESC" ∷ []
ending_words Shown = codes "END" ∷ codes "SHOW" ∷ []
ending_words Hidden = codes "END" ∷ codes "HIDE" ∷ []
ending_words Nothing = codes "END" ∷ codes "NONE" ∷ []
ending_words Fail = codes "FAIL" ∷ []

abbrev pub action_words : Action → List (List ℕ)
action_words Box = codes "BOX" ∷ []
action_words (Phrase r) = row_words r
action_words (End e) = ending_words e

-- where among its operands a row has an index list, which isn't written
abbrev pub list_place : Row → Option ℕ
list_place Select = Some 1
list_place (MonadicAxis f) = Some 0
list_place (ReduceAxis f m) = Some 0
list_place (DyadicAxis f) = Some 1
list_place (AssignIndexed v) = Some 0
list_place r = None

abbrev pub action_list : Action → Option ℕ
action_list (Phrase r) = list_place r
action_list a = None

-- operands without that at a place
abbrev pub without : Option ℕ → List (Option Source) → List (Option Source)
without None ss = ss
without (Some p) ss = remove ss p

-- an operand: the stack, a constant, or an empty slot
abbrev pub operand : Option Source → List ℕ
operand None = codes "-"
operand (Some Stack) = codes "S"
operand (Some (Constant k)) = 35 ∷ decimal k

-- the operands that are written
abbrev pub operand_words : Action → List (Option Source) → List (List ℕ)
operand_words a ss = map operand (without (action_list a) ss)

-- a line without its end: the number, what is done and with what, and the place
abbrev pub body : ℕ → Instr → List ℕ
body number i = fields (decimal number ∷ action_words i.action ++ operand_words i.action i.arguments) (64 ∷ decimal i.at)

-- a line, in UTF-8
abbrev pub line : ℕ → Instr → List ℕ
line number i = bytes (body number i) ++ 10 ∷ []

-- the lines of instructions, numbered from this one on
abbrev pub listed : ℕ → List Instr → List ℕ
listed number [] = []
listed number (i ∷ is) = line number i ++ listed (number + 1) is
