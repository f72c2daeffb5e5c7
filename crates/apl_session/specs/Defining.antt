-- Definitions of functions, as their lines are typed.
use Rattle.std.specs.Prelude.{ℕ, nat_le, Bool, ◌==◌, not, List, [], ◌∷◌, ◌++◌, length, take, drop, filter, slice_get, Option, Some, None, Result, Ok, Err, if◌then◌else◌}
use Rattle.std.specs.List.{position}
use Rattle.std.specs.Str.{bytes_eq}
use Rattle.apl_symbols.specs.Names.{is_short_enough}
use Rattle.apl_faults.specs.declared.fault.Fault.{Fault}
use Rattle.apl_faults.specs.declared.fault.Fault.TheVariants.{Defn}
use Rattle.apl_faults.specs.Report.{name_of}
use Rattle.apl_defn.specs.declared.error.DefnError.{DefnError}
use Rattle.apl_defn.specs.Definitions.{Text, Header, Definition}
use Rattle.apl_defn.specs.Blanks.{trimmed}
use Rattle.apl_defn.specs.Reading.{header_of}
use Rattle.apl_defn.specs.Defining.{defined_of}
use Rattle.apl_defn.specs.Listing.{listed}
use Rattle.apl_machine_state.specs.declared.output.Blame.TheVariants as blame
use Rattle.apl_machine_state.specs.declared.output.LineKind.TheVariants.{Answer, Report}
use Rattle.apl_machine_state.specs.Reports.{lines_of}
use Rattle.apl_machine_state.specs.State.{State, definition_of, is_global_variable, with_function, with_lines}

-- a fault is reported by its name alone
abbrev pub refused : State → Fault → State
refused s fault = with_lines (lines_of (Report fault blame.Nothing) (name_of fault ∷ [])) s

-- a command or a line of a definition is answered
abbrev pub answered : List Text → State → State
answered texts s = with_lines (lines_of Answer texts) s

-- the state without an open definition
abbrev pub closed : State → State
closed s = record s { definition = None }

-- the state with an open definition of these lines, its header first
abbrev pub opened : List Text → State → State
opened lines s = record s { definition = Some lines }

-- the number of the next line of an open definition, of which the header is line 0; 0 where none is open
abbrev pub next_line : Option (List Text) → ℕ
next_line None = 0
next_line (Some lines) = length lines

-- the header of an open definition, if one is open
abbrev pub open_header : Option (List Text) → Option Text
open_header None = None
open_header (Some lines) = slice_get lines 0

-- The text behind a first ∇.

-- behind the first character that is no blank
abbrev pub behind_mark : Text → Text
behind_mark [] = []
behind_mark (c ∷ text) = if c == 32 then behind_mark text else text

-- ∇ alone
abbrev pub del : Text
del = 0x2207 ∷ []

-- [⎕]∇
abbrev pub request : Text
request = 0x5B ∷ 0x2395 ∷ 0x5D ∷ 0x2207 ∷ []

-- the text is these marks, with any blanks before, between and behind them
abbrev pub spells : Text → Text → Bool
spells text marks = bytes_eq (filter (λ c. not (c == 32)) text) marks

-- a word as a name, if it is short enough for one; a word that is no name has no function
abbrev pub name_in : Text → Option Text
name_in word = if is_short_enough word then Some word else None

-- the name before its [, where [⎕]∇ stands from there on
abbrev pub shown_before : Text → Option ℕ → Option Text
shown_before text None = None
shown_before text (Some at) = if spells (drop at text) request then name_in (trimmed (take at text)) else None

-- the name whose function is to be shown: a name, and [⎕]∇ behind it, with any blanks round them
abbrev pub shown_name : Text → Option Text
shown_name text = shown_before text (position (λ c. c == 0x5B) text)

-- a function is shown, where there is one
abbrev pub shown : State → Option Definition → State
shown s None = refused s Defn
shown s (Some d) = answered (listed d) s

-- a text that is this header opens a definition, unless the header's name is that of a global variable
abbrev pub opened_by : State → Text → Result Header DefnError → State
opened_by s text (Err e) = refused s Defn
opened_by s text (Ok h) = if is_global_variable s h.name then refused s Defn else opened (text ∷ []) s

-- a function is shown, or a definition opened
abbrev pub shown_or_opened : State → Text → Option Text → State
shown_or_opened s text None = opened_by s text (header_of text)
shown_or_opened s text (Some name) = shown s (definition_of s name)

-- a text is typed behind ∇, and no definition is open
abbrev pub typed_behind_del : State → Text → State
typed_behind_del s text = shown_or_opened s text (shown_name text)

-- The lines of an open definition.

-- with one line more, unless 1,000 stand behind the header
abbrev pub kept : List Text → Text → List Text
kept lines line = if nat_le (length lines) 1000 then lines ++ line ∷ [] else lines

-- the function that lines define is defined, unless they define none or its name is that of a global variable
abbrev pub defined_by : State → Result Definition DefnError → State
defined_by s (Err e) = refused s Defn
defined_by s (Ok d) = if is_global_variable s d.header.name then refused s Defn else with_function d s

-- a line, without the blanks at its ends, is typed in an open definition: ∇ alone closes it
abbrev pub added : State → List Text → Text → State
added s lines line = if bytes_eq line del then defined_by (closed s) (defined_of lines) else opened (kept lines line) s
