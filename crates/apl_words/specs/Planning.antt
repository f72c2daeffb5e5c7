-- What the words of the command line ask for.
use Rattle.std.specs.Prelude.{◌≡◌, ◌≢◌, ◌⊎◌, ◌<◌, ◌^◌, ⊤, ℕ, Bool, true, false, List, Option, Some, None, option_map, string_bytes, codes}
use Rattle.std.specs.Str.Parse.{IsNumeral, digits_value, without_leading_plus}
use Rattle.clap.specs.Words.{Row, Text, first_of, one_of}
use Rattle.clap.specs.declared.error.kind.ErrorKind.{ErrorKind}
use Rattle.clap.specs.declared.error.kind.ErrorKind.TheVariants.{DisplayHelp, DisplayVersion, OutOfMemory}
use Rattle.apl_words.specs.declared.WordsError.{WordsError}
use Rattle.apl_words.specs.declared.WordsError.TheVariants.{Help, Wrong, Memory}
use Rattle.apl_words.specs.declared.Plan.{Plan}
use Rattle.apl_words.specs.declared.Plan.TheVariants.{Run, Show, Desk, Serve}
use Rattle.apl_words.specs.declared.Way.{Way}
use Rattle.apl_words.specs.declared.Way.TheVariants.{Plain, Resumed}

-- whether a flag was found, by the text that stands for it
abbrev pub IsFlag : Option Text → Bool → Type 0
IsFlag text flag = (text ≡ None → flag ≡ false) × (text ≡ Some (codes "true") → flag ≡ true) × (text ≡ Some (codes "false") → flag ≡ false)

-- a numeral of 64 bits, before which a plus may stand
abbrev pub IsCount : Text → Type 0
IsCount text = IsNumeral 10 (without_leading_plus text) × (digits_value 10 (without_leading_plus text) < 2 ^ 64)

-- the most steps of a line, by the text of --steps: its number, and a million without one
abbrev pub IsSteps : Option Text → ℕ → Type 0
IsSteps None steps = steps ≡ 1000000
IsSteps (Some text) steps = (IsCount text → steps ≡ digits_value 10 (without_leading_plus text)) × ((IsCount text → ⊥) → steps ≡ 1000000)

abbrev pub is_resumed : Way → Bool
is_resumed Plain = false
is_resumed Resumed = true

-- how an error of the parser is told, by its kind; memory for the text may always be missing
abbrev pub IsTold : ErrorKind → WordsError → Type 0
IsTold kind Memory = ⊤
IsTold kind (Help text) = ((kind ≢ DisplayHelp) × (kind ≢ DisplayVersion)) → ⊥
IsTold kind (Wrong text) = (kind ≢ OutOfMemory) × (kind ≢ DisplayHelp) × (kind ≢ DisplayVersion)

-- The plan for what was found: a desk where that flag is there; else a session that is served, with the workspace that was found, where that flag is; else the
-- code of a function where a workspace and a function are; else a run, with the workspace, the file to save in and the way that were found.
abbrev pub IsPlan : List Row → Plan → Type 0
IsPlan found (Desk steps) = IsFlag (one_of (codes "desk") found) true × IsSteps (one_of (codes "steps") found) steps
IsPlan found (Serve workspace) = IsFlag (one_of (codes "desk") found) false × IsFlag (one_of (codes "serve") found) true
    × (option_map string_bytes workspace ≡ first_of (codes "WS") found)
IsPlan found (Show shown) = IsFlag (one_of (codes "desk") found) false × IsFlag (one_of (codes "serve") found) false × (first_of (codes "WS") found ≡ Some (string_bytes shown.workspace))
    × (first_of (codes "code") found ≡ Some (string_bytes shown.function))
IsPlan found (Run run) = IsFlag (one_of (codes "desk") found) false × IsFlag (one_of (codes "serve") found) false × (option_map string_bytes run.workspace ≡ first_of (codes "WS") found)
    × ((first_of (codes "WS") found ≡ None) ⊎ (first_of (codes "code") found ≡ None))
    × (option_map string_bytes run.save ≡ first_of (codes "save") found)
    × IsFlag (one_of (codes "resume") found) (is_resumed run.way) × IsSteps (one_of (codes "steps") found) run.steps
