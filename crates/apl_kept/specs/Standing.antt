-- How a held session stands, by what it has written and nobody has taken.
use Rattle.std.specs.Prelude.{ℕ, ◌-◌, List, [], ◌∷◌, length, slice_get, Option, Some, None, if◌then◌else◌}
use Rattle.apl_machine_state.specs.declared.output.Blame.{Blame}
use Rattle.apl_machine_state.specs.declared.output.Blame.TheVariants as blame
use Rattle.apl_machine_state.specs.declared.output.LineKind.{LineKind}
use Rattle.apl_machine_state.specs.declared.output.LineKind.TheVariants as kind
use Rattle.apl_machine_state.specs.declared.output.OutLine.{OutLine}
use Rattle.apl_machine_state.specs.State.{State, is_idle}
use Rattle.apl_machine_state.specs.Environment.{Context, Call}
use Rattle.apl_kept.specs.declared.standing.Place.{Place}
use Rattle.apl_kept.specs.declared.standing.Place.TheVariants as place
use Rattle.apl_kept.specs.declared.standing.Told.{Told}
use Rattle.apl_kept.specs.declared.standing.Told.TheVariants as told

-- what a line of a kind tells where it is the last
abbrev pub kind_told : LineKind → Told
kind_told (kind.Report fault blame) = told.Fault fault
kind_told kind.Stop = told.Stopped
kind_told k = told.Idle

abbrev pub line_told : Option OutLine → Told
line_told None = told.Idle
line_told (Some line) = kind_told line.kind

-- the last of some lines, if there are any
abbrev pub last_of : List OutLine → Option OutLine
last_of lines = slice_get lines (length lines - 1)

-- a statement runs, or the last line that nobody has taken tells how the session stands
abbrev pub told_of : State → Told
told_of s = if is_idle s then line_told (last_of s.output) else told.Running

-- the line before which the newest call is suspended, if one is, with a column or without one
abbrev pub suspended_at : Option ℕ → List Context → Option Place
suspended_at column (Call d n locals None ∷ below) = Some (place.Call d.header.name n column)
suspended_at column contexts = None

-- what a fault's place is that is blamed on this
abbrev pub blamed_place : Blame → List Context → Option Place
blamed_place blame.Nothing contexts = None
blamed_place (blame.Typed at) contexts = Some (place.Typed at)
blamed_place (blame.Call at) contexts = suspended_at (Some at) contexts

-- the place that a line of a kind tells where it is the last: that of the fault, or of the stop
abbrev pub kind_place : LineKind → List Context → Option Place
kind_place (kind.Report fault by) contexts = blamed_place by contexts
kind_place kind.Stop contexts = suspended_at None contexts
kind_place k contexts = None

abbrev pub line_place : Option OutLine → List Context → Option Place
line_place None contexts = None
line_place (Some line) contexts = kind_place line.kind contexts

-- where the fault or the stop is that a session tells, if it tells one that has a place
abbrev pub place_of : State → Option Place
place_of s = if is_idle s then line_place (last_of s.output) s.contexts else None
