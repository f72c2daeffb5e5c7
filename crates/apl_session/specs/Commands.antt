-- Commands: the words behind a first ).
use Rattle.std.specs.Prelude.{ℕ, ◌-◌, Bool, ◌==◌, not, List, [], ◌∷◌, ◌++◌, length, drop, take_while, map, filter, codes, Option, Some, None, if◌then◌else◌}
use Rattle.std.specs.Int.{is_in_range}
use Rattle.std.specs.Str.{bytes_eq}
use Rattle.apl_faults.specs.declared.fault.Fault.TheVariants.{Command as CommandFault}
use Rattle.apl_faults.specs.Report.{place}
use Rattle.apl_defn.specs.Definitions.{Text}
use Rattle.apl_defn.specs.Reading.{name_of}
use Rattle.apl_machine_state.specs.declared.level.Level.{Level}
use Rattle.apl_machine_state.specs.State.{State}
use Rattle.apl_machine_state.specs.Objects.{cleared, erased, globals, levels}
use Rattle.apl_session.specs.declared.commands.Command.{Command}
use Rattle.apl_session.specs.declared.commands.Command.TheVariants.{StateIndicator, Functions, Variables, Erase, Clear}
use Rattle.apl_session.specs.Defining.{answered, refused}

-- what stands before the first blank
abbrev pub before_blank : Text → Text
before_blank text = take_while (λ c. not (c == 32)) text

-- the first blank and what stands behind it
abbrev pub from_blank : Text → Text
from_blank text = drop (length (before_blank text)) text

-- a word before others; an empty one is none
abbrev pub with_word : Text → List Text → List Text
with_word [] words = words
with_word (c ∷ word) words = (c ∷ word) ∷ words

-- the words that blanks divide, behind a prefix of the first
abbrev pub words_behind : Text → Text → List Text
words_behind prefix [] = with_word prefix []
words_behind prefix (c ∷ text) = if c == 32 then with_word prefix (words_behind [] text) else words_behind (prefix ++ c ∷ []) text

abbrev pub words_of : Text → List Text
words_of text = words_behind [] text

-- a small letter as its capital
abbrev pub capital : ℕ → ℕ
capital c = if is_in_range 97 122 c then c - 32 else c

abbrev pub is_word : Text → Text → Bool
is_word word command = bytes_eq (map capital word) command

-- the command that a word names, in letters of either case
abbrev pub command_of : Text → Option Command
command_of word =
    if is_word word (codes "SI") then Some StateIndicator
    else if is_word word (codes "FNS") then Some Functions
    else if is_word word (codes "VARS") then Some Variables
    else if is_word word (codes "ERASE") then Some Erase
    else if is_word word (codes "CLEAR") then Some Clear
    else None

-- words as names, if each is one
abbrev pub with_name : Option Text → Option (List Text) → Option (List Text)
with_name (Some name) (Some names) = Some (name ∷ names)
with_name name names = None

abbrev pub names_in : List Text → Option (List Text)
names_in [] = Some []
names_in (word ∷ words) = with_name (name_of word) (names_in words)

-- a standing call as )SI writes it: its name and line, and a star where it is suspended
abbrev pub shown_level : Level → Text
shown_level level = if level.suspended then place (level.name, level.line) ++ codes " *" else place (level.name, level.line)

-- of these names, those of functions and those of variables
abbrev pub function_names : List (Text × Bool) → List Text
function_names list = map (λ e. e.0) (filter (λ e. e.1) list)

abbrev pub variable_names : List (Text × Bool) → List Text
variable_names list = map (λ e. e.0) (filter (λ e. not e.1) list)

-- ERASE takes at least one name
abbrev pub erasing : State → Option (List Text) → State
erasing s (Some (name ∷ names)) = erased (name ∷ names) s
erasing s names = refused s CommandFault

-- a command without words behind it is obeyed
abbrev pub obeyed : State → Command → State
obeyed s StateIndicator = answered (map shown_level (levels s.contexts)) s
obeyed s Functions = answered (function_names (globals s)) s
obeyed s Variables = answered (variable_names (globals s)) s
obeyed s Erase = refused s CommandFault
obeyed s Clear = cleared s

-- ERASE takes words, the other commands none
abbrev pub ordered : State → Option Command → List Text → State
ordered s (Some Erase) words = erasing s (names_in words)
ordered s (Some command) [] = obeyed s command
ordered s command words = refused s CommandFault

-- a text is typed behind a first ): its command begins there at once
abbrev pub commanded : State → Text → State
commanded s text = ordered s (command_of (before_blank text)) (words_of (from_blank text))
