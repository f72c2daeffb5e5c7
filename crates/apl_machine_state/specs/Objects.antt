-- What commands ask of a state and make of it: its global objects and its standing calls.
use Rattle.std.specs.Prelude.{ℕ, Bool, List, [], ◌∷◌, Option, Some, None}
use Rattle.apl_defn.specs.Definitions.{Text, Definition}
use Rattle.apl_names.specs.Maps.{kinds_in, without_entry}
use Rattle.apl_machine_state.specs.declared.level.Level.{Level}
use Rattle.apl_vectors.specs.Vectors.{vector_of, without_vector}
use Rattle.apl_machine_state.specs.Environment.{Context, Statement, Call, Execute, is_suspended}
use Rattle.apl_machine_state.specs.State.{State, clear, definition_of}

-- the standing calls, newest first, as a state indicator shows them
abbrev pub levels : List Context → List Level
levels [] = []
levels (Statement text rest ∷ below) = levels below
levels (Execute text rest ∷ below) = levels below
levels (Call d n locals rest ∷ below) = record { name = d.header.name; line = n; suspended = is_suspended rest } ∷ levels below

-- the global names, ascending, and whether each is that of a function
abbrev pub globals : State → List (Text × Bool)
globals s = kinds_in s.world.globals

-- The name stands for nothing globally. The vectors of a function go with it; standing calls go on with their own definitions.
abbrev pub without_global : Text → State → State
without_global name s = record s {
  world = record s.world { globals = without_entry name s.world.globals; traces = without_vector name s.world.traces };
  stops = without_vector name s.stops;
}

-- the global objects of these names are erased; a name of none is passed over
abbrev pub erased : List Text → State → State
erased [] s = s
erased (name ∷ names) s = erased names (without_global name s)

-- a clear workspace, with the output that is written
abbrev pub cleared : State → State
cleared s = record clear { output = s.output }

abbrev pub vectors_by : Option Definition → List ℕ → List ℕ → Option (List ℕ × List ℕ)
vectors_by None stops traces = None
vectors_by (Some d) stops traces = Some (stops, traces)

-- the stop and trace vectors of a global function
abbrev pub vectors_of : State → Text → Option (List ℕ × List ℕ)
vectors_of s name = vectors_by (definition_of s name) (vector_of name s.stops) (vector_of name s.world.traces)
