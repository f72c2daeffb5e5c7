-- What a change writes reports no stop: a stop is reported where a call comes to a line.
use Rattle.std.proofs.Common.{◌≡◌, ℕ, List, [], ◌∷◌, ◌++◌, Bool, true, false, Option, Some, None, refl}
use Rattle.std.specs.Prelude.{Result, Ok, Err, if◌then◌else◌}
use Rattle.apl_arrays.specs.Cells.{Arr}
use Rattle.apl_faults.specs.declared.fault.Fault.{Fault}
use Rattle.apl_faults.specs.declared.fault.Fault.TheVariants.{Domain, Syntax, Value as ValueFault}
use Rattle.apl_faults.specs.Report as faults
use Rattle.apl_faults.specs.Report.{place}
use Rattle.apl_format.specs.Display.{display}
use Rattle.apl_code.specs.declared.row.Row.{Row}
use Rattle.apl_code.specs.declared.row.Ending.{Ending}
use Rattle.apl_code.specs.declared.row.Ending.TheVariants.{Branch, Escape, Shown, Hidden, Nothing}
use Rattle.apl_translate.specs.Phrase.{phrase}
use Rattle.apl_translate.specs.Translation.{held, ending}
use Rattle.apl_defn.specs.Definitions.{Text, is_line, line_of}
use Rattle.apl_vectors.specs.Vectors.{has_line}
use Rattle.apl_machine_state.specs.declared.operand.Operand.{Operand}
use Rattle.apl_machine_state.specs.declared.operand.Operand.TheVariants.{Value}
use Rattle.apl_machine_state.specs.declared.output.Blame.TheVariants as blame
use Rattle.apl_machine_state.specs.declared.output.LineKind.TheVariants as line_kind
use Rattle.apl_machine_state.specs.declared.output.OutLine.{OutLine}
use Rattle.apl_machine_state.specs.Items.{Item, Rest, answered, cells, column, kinds}
use Rattle.apl_machine_state.specs.Environment.{World, Context, Statement, Call, Execute, rest_of}
use Rattle.apl_machine_state.specs.Reports.{fault_lines, hole_in, lines_of}
use Rattle.apl_machine_state.specs.Watching.{arrow, behind, blank, traced}
use Rattle.apl_machine_state.specs.Calls.{begun_line, answered_by, answered_in, given_to, result_of}
use Rattle.apl_machine_state.specs.Outcomes.{Outcome, Becomes, Makes, Writes, Assigns, SetsOrigin, Enters, Watches, Executes, Faults}
use Rattle.apl_machine_state.specs.Changes.{Change, Rests, Moves, Asks, Arrives, change_by, line_end, leads_nowhere, aim, blamed, returns, resumed, branch_to, branch, escape_to, change_at_end, change_of, change_in, change, shown_lines}
use Rattle.apl_resume.proofs.Output.{IsPlain, plain-both, plain-of}

-- what the change writes reports no stop
abbrev pub IsPlainChange : Change → Type 0
IsPlainChange Rests = Unit {0}
IsPlainChange (Moves w contexts lines ended) = IsPlain lines
IsPlainChange (Asks which w name lines given) = Unit {0}
IsPlainChange (Arrives w d n locals below lines ended) = IsPlain lines

choose : (P : Change → Type 0) (b : Bool) (c e : Change) → P c → P e → P (if b then c else e)
choose P true c e h g = h
choose P false c e h g = g

-- the report of a fault
pub fault-plain : (fault : Fault) (at : ℕ) (contexts : List Context) → IsPlain (fault_lines fault at contexts)
fault-plain fault at [] = refl
fault-plain fault at (Statement text rest ∷ below) = plain-of (line_kind.Report fault (blame.Typed at)) (faults.report fault None text at) refl
fault-plain fault at (Call d n locals rest ∷ below) = plain-of (line_kind.Report fault (blame.Call at)) (faults.report fault (Some (d.header.name, n)) (line_of d n) at) refl
fault-plain fault at (Execute text rest ∷ below) = fault-plain fault (hole_in below) below

-- what a traced line writes
traced-by : (b : Bool) (texts : List Text) → IsPlain (if b then lines_of line_kind.Trace texts else [])
traced-by true texts = plain-of line_kind.Trace texts refl
traced-by false texts = refl

traced-plain : (w : World) (contexts : List Context) (mark : Text) (lines : List Text) → IsPlain (traced w contexts mark lines)
traced-plain w [] mark lines = refl
traced-plain w (Execute text rest ∷ below) mark lines = traced-plain w below mark lines
traced-plain w (Statement text rest ∷ below) mark lines = refl
traced-plain w (Call d n locals rest ∷ below) mark lines = traced-by (has_line d.header.name n w.traces) (behind (place (d.header.name, n) ++ mark) lines)

-- what a missing value writes
answer-plain : (context : Context) (below : List Context) (rest : Rest) (items : Result (List Item) ℕ) → IsPlain (answered_by context below rest items).lines
answer-plain context below rest (Ok items) = refl
answer-plain context below rest (Err at) = fault-plain ValueFault at (context ∷ below)

answered-plain : (answer : Option Arr) (context : Context) (below : List Context) (rest : Option Rest) → IsPlain (answered_in answer context below rest).lines
answered-plain answer context below None = refl
answered-plain answer context below (Some rest) = answer-plain context below rest (answered answer rest.items)

pub given-plain : (contexts : List Context) (answer : Option Arr) → IsPlain (given_to contexts answer).lines
given-plain [] answer = refl
given-plain (context ∷ below) answer = answered-plain answer context below (rest_of context)

-- a phrase
by-plain : (w : World) (context : Context) (below : List Context) (rest : Rest) (n : ℕ) (row : Row) (o : Outcome) → IsPlainChange (change_by w context below rest n row o)
by-plain w context below rest n row (Becomes value) = refl
by-plain w context below rest n row (Makes slots) = refl
by-plain w context below rest n row (Writes value) = plain-of line_kind.Shown (display value) refl
by-plain w context below rest n row (Assigns name array value) = refl
by-plain w context below rest n row (SetsOrigin io value) = refl
by-plain w context below rest n row (Enters d a b) = refl
by-plain w context below rest n row (Watches which name lines) = tt
by-plain w context below rest n row (Executes text tokens) = refl
by-plain w context below rest n row (Faults fault) = fault-plain fault _ (context ∷ below)

-- a line's end
line_end-plain : (w : World) (context : Context) (below : List Context) (value : Option Arr) (lines : List OutLine) → IsPlain lines → IsPlainChange (line_end w context below value lines)
line_end-plain w (Statement text rest) below value lines h = h
line_end-plain w (Call d n locals rest) below value lines h = h
line_end-plain w (Execute text rest) below value lines h = given-plain below value

resumed-plain : (w : World) (contexts : List Context) (aim : Option ℕ) → IsPlainChange (resumed w contexts aim)
resumed-plain w (Call d n locals rest ∷ below) (Some m) =
    choose IsPlainChange (is_line d m) (Moves w (begun_line w d m locals below) [] true) (returns w d locals below [] true)
    refl (given-plain below (result_of d.header.result locals))
resumed-plain w contexts aim = refl

branch_to-plain : (w : World) (contexts : List Context) (aim : Option ℕ) (lines : List OutLine) → IsPlain lines → IsPlainChange (branch_to w contexts aim lines)
branch_to-plain w [] aim lines h = tt
branch_to-plain w (Statement text rest ∷ below) aim lines h = resumed-plain w below aim
branch_to-plain w (Call d n locals rest ∷ below) aim lines h = h
branch_to-plain w (Execute text rest ∷ below) aim lines h = branch_to-plain w below aim lines h

branch-plain : (nowhere : Bool) (w : World) (contexts : List Context) (rest : Rest) (a : Arr) → IsPlainChange (branch nowhere w contexts rest a)
branch-plain true w contexts rest a = fault-plain Domain (column rest.items 0) contexts
branch-plain false w contexts rest a = branch_to-plain w contexts (aim a.items) (traced w contexts arrow (display a)) (traced-plain w contexts arrow (display a))

escape_to-plain : (w : World) (contexts : List Context) (lines : List OutLine) → IsPlain lines → IsPlainChange (escape_to w contexts lines)
escape_to-plain w [] lines h = tt
escape_to-plain w (Statement text rest ∷ below) lines h = h
escape_to-plain w (Call d n locals rest ∷ below) lines h = h
escape_to-plain w (Execute text rest ∷ below) lines h = escape_to-plain w below lines h

at_end-plain : (w : World) (context : Context) (below : List Context) (rest : Rest) (end : Ending) (values : List (Option Operand)) → IsPlainChange (change_at_end w context below rest end values)
at_end-plain w context below rest Nothing values = line_end-plain w context below None (traced w (context ∷ below) [] []) (traced-plain w (context ∷ below) [] [])
at_end-plain w context below rest Hidden (Some (Value a) ∷ []) =
    line_end-plain w context below (Some a) (traced w (context ∷ below) blank (display a)) (traced-plain w (context ∷ below) blank (display a))
at_end-plain w context below rest Shown (Some (Value a) ∷ []) =
    line_end-plain w context below (Some a) (shown_lines a ++ traced w (context ∷ below) blank (display a))
    (plain-both (shown_lines a) (traced w (context ∷ below) blank (display a)) (plain-of line_kind.Shown (display a) refl) (traced-plain w (context ∷ below) blank (display a)))
at_end-plain w context below rest Branch (Some (Value a) ∷ []) = branch-plain (leads_nowhere a.items) w (context ∷ below) rest a
at_end-plain w context below rest Escape values = escape_to-plain w (context ∷ below) (traced w (context ∷ below) arrow []) (traced-plain w (context ∷ below) arrow [])
at_end-plain w context below rest end values = fault-plain Syntax (blamed rest.items) (context ∷ below)

change_of-plain : (w : World) (context : Context) (below : List Context) (rest : Rest) (p : Option (ℕ × Row)) → IsPlainChange (change_of w context below rest p)
change_of-plain w context below rest (Some p) = by-plain w context below rest p.0 p.1 _
change_of-plain w context below rest None = at_end-plain w context below rest (ending rest.assigned (kinds rest.items)) (held (cells rest.items))

change_in-plain : (w : World) (context : Context) (below : List Context) (rest : Option Rest) → IsPlainChange (change_in w context below rest)
change_in-plain w context below None = tt
change_in-plain w context below (Some rest) = change_of-plain w context below rest (phrase None (kinds rest.items))

pub change-plain : (w : World) (contexts : List Context) → IsPlainChange (change w contexts)
change-plain w [] = tt
change-plain w (context ∷ below) = change_in-plain w context below (rest_of context)
