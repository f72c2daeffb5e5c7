-- The texts that calls give of a session.
use Rattle.std.specs.Prelude.{ℕ, decimal, List, ◌∷◌, ◌++◌, map, Option, Some, None, option_map, Result, Ok, Err}
use Rattle.std.specs.List.{flat_map}
use Rattle.apl_charset.specs.Decoding.{decoded}
use Rattle.apl_defn.specs.Definitions.{Text}
use Rattle.apl_machine_state.specs.Objects.{levels}
use Rattle.apl_machine_state.specs.State.{State}
use Rattle.apl_session.specs.Commands.{shown_level}
use Rattle.apl_kept.specs.Names.{function_named, names_of, source_of}
use Rattle.apl_kept.specs.declared.names.Named.{Named}
use Rattle.apl_kept.specs.declared.names.Reading.{Reading}
use Rattle.apl_kept.specs.declared.names.Reading.TheVariants as reading
use Rattle.apl_page.specs.Places.{Keeping}
use Rattle.apl_page.specs.Spelling.{spelled}
use Rattle.apl_page.specs.declared.refusal.Refusal.{Refusal}
use Rattle.apl_page.specs.declared.refusal.Refusal.TheVariants.{NoFunction}

-- a variable: its name, a letter, and the length of each axis
abbrev pub variable_line : Text → ℕ → List ℕ → Text
variable_line name letter shape = name ++ 32 ∷ letter ∷ flat_map (λ n. 32 ∷ decimal n) shape

-- a name by what is read under it: ∇ and the header of a function, N or C of a variable, the name alone where there is no value
abbrev pub line_by : Text → Reading → Text
line_by name (reading.Function header) = 0x2207 ∷ 32 ∷ header
line_by name (reading.Numbers shape) = variable_line name 78 shape
line_by name (reading.Characters shape) = variable_line name 67 shape
line_by name reading.Unset = name

abbrev pub name_line : Named → Text
name_line n = line_by n.name n.reading

-- the names, and the standing calls, of a session
abbrev pub names_bytes : Keeping → List ℕ
names_bytes k = spelled (map name_line (names_of k.state))

abbrev pub levels_bytes : Keeping → List ℕ
levels_bytes k = spelled (map shown_level (levels k.state.contexts))

-- the source of the function of a word, if there is one
abbrev pub source_bytes : Keeping → Option Text → Option (List ℕ)
source_bytes k None = None
source_bytes k (Some word) = option_map (λ d. spelled (source_of d)) (function_named k.state word)

-- what is due, if it is found
abbrev pub found_due : Option (List ℕ) → Result (List ℕ) Refusal
found_due None = Err NoFunction
found_due (Some bytes) = Ok bytes

-- the source of the function of a name in UTF-8
abbrev pub listing_due : Keeping → List ℕ → Result (List ℕ) Refusal
listing_due k name = found_due (source_bytes k (decoded name))
