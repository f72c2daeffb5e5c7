-- The trees of answers.
use Rattle.std.specs.Prelude.{ℕ, List, [], ◌∷◌, ◌++◌, codes, Option, Some, None}
use Rattle.serde_json.specs.Data.{Data, boolean, string, object, Members, member, no_members, put}
use Rattle.serde_json.specs.Written.{compact_text}
use Rattle.apl_charset.specs.Text.{bytes}
use Rattle.apl_arrays.specs.Cells.{Arr, Items, Numbers, Characters}
use Rattle.apl_workspace_file.specs.Trees.{whole_tree, list_tree, elements_tree}
use Rattle.apl_workspace_file.specs.declared.fields.Elements.TheVariants as elements
use Rattle.apl_defn.specs.Definitions.{Text}
use Rattle.apl_faults.specs.Report.{number_of}
use Rattle.apl_machine_state.specs.declared.output.LineKind.{LineKind}
use Rattle.apl_machine_state.specs.declared.output.LineKind.TheVariants.{Shown, Trace, Stop, Answer, Report}
use Rattle.apl_machine_state.specs.declared.output.OutLine.{OutLine}
use Rattle.apl_machine_state.specs.State.{State}
use Rattle.apl_session.specs.Defining.{next_line}
use Rattle.apl_kept.specs.declared.indicator.StandingCall.{StandingCall}
use Rattle.apl_kept.specs.declared.names.Named.{Named}
use Rattle.apl_kept.specs.declared.names.Reading.{Reading}
use Rattle.apl_kept.specs.declared.names.Reading.TheVariants as reading
use Rattle.apl_kept.specs.declared.standing.Place.{Place}
use Rattle.apl_kept.specs.declared.standing.Place.TheVariants.{Typed, Call}
use Rattle.apl_kept.specs.declared.standing.Told.{Told}
use Rattle.apl_kept.specs.declared.standing.Told.TheVariants.{Running, Stopped, Fault, Idle}
use Rattle.apl_kept.specs.Standing.{place_of, told_of}

abbrev pub text_tree : Text → Data
text_tree text = string (bytes text)

-- what a line is
abbrev pub kind_word : LineKind → List ℕ
kind_word Shown = codes "shown"
kind_word Trace = codes "trace"
kind_word Stop = codes "stop"
kind_word Answer = codes "answer"
kind_word (Report fault blame) = codes "report"

abbrev pub line_tree : OutLine → Data
line_tree line = object (member (codes "kind") (string (kind_word line.kind)) (member (codes "text") (text_tree line.text) no_members))

-- how a session stands
abbrev pub word_of : Told → List ℕ
word_of Running = codes "running"
word_of Stopped = codes "stopped"
word_of (Fault fault) = codes "fault"
word_of Idle = codes "idle"

-- Members that stand only where there is something to tell, each in the order of the keys.

-- a fault is told by its number
abbrev pub with_fault : Told → Members → Members
with_fault (Fault fault) members = put (codes "fault") (whole_tree (number_of fault)) members
with_fault told members = members

abbrev pub with_column : Option ℕ → Members → Members
with_column (Some at) members = put (codes "column") (whole_tree at) members
with_column None members = members

-- where a fault or a stop is: at a column of the typed text, or at a line of a call
abbrev pub place_tree : Place → Data
place_tree (Typed at) = object (member (codes "column") (whole_tree at) no_members)
place_tree (Call name line column) = object (with_column column (member (codes "line") (whole_tree line) (member (codes "name") (text_tree name) no_members)))

abbrev pub with_place : Option Place → Members → Members
with_place (Some place) members = put (codes "place") (place_tree place) members
with_place None members = members

-- how many steps were made, where some were asked for
abbrev pub with_steps : Option ℕ → Members → Members
with_steps (Some n) members = put (codes "steps") (whole_tree n) members
with_steps None members = members

-- what a session in this state tells that stands so: what it has written and nobody has taken, and the number of the next line of an open definition
abbrev pub standing_members : State → Told → Members
standing_members s told = member (codes "lines") (list_tree line_tree s.output)
    (member (codes "next") (whole_tree (next_line s.definition)) (member (codes "state") (string (word_of told)) no_members))

abbrev pub told_tree : Option ℕ → State → Data
told_tree steps s = object (with_steps steps (with_place (place_of s) (with_fault (told_of s) (standing_members s (told_of s)))))

abbrev pub items_tree : List ℕ → Items → Data
items_tree shape (Numbers zs) = elements_tree shape (elements.Numbers zs)
items_tree shape (Characters cs) = elements_tree shape (elements.Text (bytes cs))

-- an array, as in the file of a workspace
abbrev pub array_tree : Arr → Data
array_tree a = items_tree a.shape a.items

-- a name, by the header of its function, or by the shape and type of its value
abbrev pub named_members : List ℕ → Reading → Members
named_members name (reading.Function header) = member (codes "header") (text_tree header) (member (codes "name") (string name) no_members)
named_members name (reading.Numbers shape) = member (codes "name") (string name) (member (codes "shape") (list_tree whole_tree shape)
    (member (codes "type") (string (codes "numbers")) no_members))
named_members name (reading.Characters shape) = member (codes "name") (string name) (member (codes "shape") (list_tree whole_tree shape)
    (member (codes "type") (string (codes "characters")) no_members))
named_members name reading.Unset = member (codes "name") (string name) no_members

abbrev pub named_tree : Named → Data
named_tree named = object (named_members (bytes named.name) named.reading)

-- a standing call
abbrev pub call_tree : StandingCall → Data
call_tree call = object (with_column call.column (member (codes "line") (whole_tree call.line) (member (codes "locals") (list_tree named_tree call.locals)
    (member (codes "name") (text_tree call.name) (member (codes "suspended") (boolean call.suspended) (member (codes "text") (text_tree call.text) no_members))))))

-- an answer of one member
abbrev pub answer_tree : List ℕ → Data → Data
answer_tree key d = object (member key d no_members)

-- a tree as a line of JSON
abbrev pub line_of : Data → List ℕ
line_of tree = compact_text tree ++ 10 ∷ []
