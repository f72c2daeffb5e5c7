-- The standing calls of a state, with their lines and their locals.
use Rattle.std.specs.Prelude.{List, [], ◌∷◌, ◌++◌, map}
use Rattle.apl_defn.specs.Definitions.{Text, Definition, line_of}
use Rattle.apl_names.specs.Maps.{Map, said, value_in}
use Rattle.apl_machine_state.specs.Environment.{Context, Statement, Call, Execute, is_suspended}
use Rattle.apl_order.specs.Kept.{names_in}
use Rattle.apl_machine.specs.Standing.{hole_in}
use Rattle.apl_kept.specs.declared.indicator.StandingCall.{StandingCall}
use Rattle.apl_kept.specs.declared.names.Named.{Named}
use Rattle.apl_kept.specs.Names.{value_reading}

-- a name with the shape and type of the value that a map gives it, if it gives one; a label has no value of its own
abbrev pub local_in : Map → Text → Named
local_in m name = record { name = name; reading = value_reading (value_in (said m name)) }

-- the names of a call, as its map has them: its function's result, arguments and locals, in the order of the header, and the labels
abbrev pub locals_of : Definition → Map → List Named
locals_of d m = map (local_in m) (names_in d.header) ++ map (λ l. local_in m l.0) d.labels

-- The standing calls, newest first. The column is that at which the line awaits an answer; a call that is suspended before its line awaits none.
abbrev pub indicator : List Context → List StandingCall
indicator [] = []
indicator (Statement text rest ∷ below) = indicator below
indicator (Execute text rest ∷ below) = indicator below
indicator (Call d n locals rest ∷ below) = record {
  name = d.header.name;
  line = n;
  text = line_of d n;
  column = hole_in rest;
  suspended = is_suspended rest;
  locals = locals_of d locals;
} ∷ indicator below
