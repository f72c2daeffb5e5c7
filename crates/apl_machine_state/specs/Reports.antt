-- Lines of output, those that report a fault, and what it leaves of the contexts.
use Rattle.std.specs.Prelude.{ℕ, List, [], ◌∷◌, map, Option, Some, None}
use Rattle.apl_faults.specs.declared.fault.Fault.{Fault}
use Rattle.apl_faults.specs.Report.{report}
use Rattle.apl_machine_state.specs.declared.output.Blame.{Blame}
use Rattle.apl_machine_state.specs.declared.output.Blame.TheVariants as blame
use Rattle.apl_machine_state.specs.declared.output.LineKind.{LineKind}
use Rattle.apl_machine_state.specs.declared.output.LineKind.TheVariants.{Report}
use Rattle.apl_machine_state.specs.declared.output.OutLine.{OutLine}
use Rattle.apl_defn.specs.Definitions.{Text, line_of}
use Rattle.apl_machine_state.specs.Items.{Rest, awaited_at}
use Rattle.apl_machine_state.specs.Environment.{Context, Statement, Call, Execute, rest_of}

-- lines of output that all are of this kind
abbrev pub lines_of : LineKind → List Text → List OutLine
lines_of kind texts = map {A = Text} (λ text. record { text = text; kind = kind }) texts

-- a fault at a column of a typed text, or of the line of a call, is blamed on that
abbrev pub blame_of : Option (Text × ℕ) → ℕ → Blame
blame_of None at = blame.Typed at
blame_of (Some call) at = blame.Call at

-- each line of a fault's report is of that fault
abbrev pub report_lines : Fault → Option (Text × ℕ) → Text → ℕ → List OutLine
report_lines fault call text at = lines_of (Report fault (blame_of call at)) (report fault call text at)

-- the column of the hole of a line
abbrev pub hole_of : Option Rest → ℕ
hole_of None = 0
hole_of (Some rest) = awaited_at rest.items

-- the column of the hole of the newest context
abbrev pub hole_in : List Context → ℕ
hole_in [] = 0
hole_in (context ∷ below) = hole_of (rest_of context)

-- the report of a fault in the newest context, at a column; one in a text that is executed is a fault at its ⍎
abbrev pub fault_lines : Fault → ℕ → List Context → List OutLine
fault_lines fault at [] = []
fault_lines fault at (Statement text rest ∷ below) = report_lines fault None text at
fault_lines fault at (Call d n locals rest ∷ below) = report_lines fault (Some (d.header.name, n)) (line_of d n) at
fault_lines fault at (Execute text rest ∷ below) = fault_lines fault (hole_in below) below

-- after a fault a text that is executed is dropped with its ⍎, a statement is dropped, and a call is suspended before its line
abbrev pub abandoned : List Context → List Context
abandoned [] = []
abandoned (Statement text rest ∷ below) = below
abandoned (Call d n locals rest ∷ below) = Call d n locals None ∷ below
abandoned (Execute text rest ∷ below) = abandoned below
