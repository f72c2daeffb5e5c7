-- What names stand for, and how functions are written.
use Rattle.std.specs.Prelude.{ℕ, List, ◌∷◌, map, Option, Some, None, if◌then◌else◌}
use Rattle.apl_symbols.specs.Names.{is_short_enough}
use Rattle.apl_arrays.specs.Cells.{Arr, Items, Numbers, Characters}
use Rattle.apl_defn.specs.Definitions.{Text, Definition}
use Rattle.apl_defn.specs.Listing.{canonical}
use Rattle.apl_names.specs.declared.binding.Binding.{Binding}
use Rattle.apl_names.specs.declared.binding.Binding.TheVariants.{Unset, Label, Value, Function}
use Rattle.apl_names.specs.Maps.{found}
use Rattle.apl_machine_state.specs.Environment.{environment}
use Rattle.apl_machine_state.specs.Objects.{globals}
use Rattle.apl_machine_state.specs.State.{State, definition_of}
use Rattle.apl_kept.specs.declared.names.Named.{Named}
use Rattle.apl_kept.specs.declared.names.Reading.{Reading}
use Rattle.apl_kept.specs.declared.names.Reading.TheVariants as reading

-- an array, by its shape and what it holds
abbrev pub array_reading : List ℕ → Items → Reading
array_reading shape (Numbers numbers) = reading.Numbers shape
array_reading shape (Characters characters) = reading.Characters shape

abbrev pub value_reading : Option Arr → Reading
value_reading None = reading.Unset
value_reading (Some a) = array_reading a.shape a.items

abbrev pub function_reading : Option Definition → Reading
function_reading None = reading.Unset
function_reading (Some d) = reading.Function (canonical d.header)

-- what is read under a name that stands for this; a label has no value of its own
abbrev pub reading_of : Option Binding → Reading
reading_of None = reading.Unset
reading_of (Some Unset) = reading.Unset
reading_of (Some (Label line)) = reading.Unset
reading_of (Some (Value array)) = value_reading (Some array)
reading_of (Some (Function d)) = function_reading (Some d)

-- what a statement that begins now reads under a name: as the newest of the standing calls says that has it, and else the workspace
abbrev pub reading_now : State → Text → Reading
reading_now s name = reading_of (found (environment s.world s.contexts) name)

abbrev pub named : State → Text → Named
named s name = record { name = name; reading = reading_now s name }

-- the global names, ascending, with what is read under each
abbrev pub names_of : State → List Named
names_of s = map (λ e. named s e.0) (globals s)

-- the global function that a word names, if it is short enough for a name
abbrev pub function_named : State → Text → Option Definition
function_named s word = if is_short_enough word then definition_of s word else None

-- a function as it is written: its header, and its lines
abbrev pub source_of : Definition → List Text
source_of d = canonical d.header ∷ d.lines
