-- Where neither ⎕STOP nor ⍎ stands, a step asks no stop vector, and leaves a state in which neither stands.
use Rattle.std.proofs.Common.{◌≡◌, ℕ, List, [], ◌∷◌, ◌++◌, Bool, true, false, Option, Some, None, refl}
use Rattle.std.specs.Prelude.{if◌then◌else◌}
use Rattle.apl_arrays.specs.Cells.{Arr}
use Rattle.apl_format.specs.Display.{display}
use Rattle.apl_code.specs.declared.row.Row.{Row}
use Rattle.apl_code.specs.declared.row.Ending.{Ending}
use Rattle.apl_code.specs.declared.row.Ending.TheVariants.{Branch, Escape, Shown, Hidden, Nothing}
use Rattle.apl_translate.specs.Phrase.{phrase}
use Rattle.apl_translate.specs.Translation.{held, ending}
use Rattle.apl_tokens.specs.Tokens.{tokens_of}
use Rattle.apl_defn.specs.Definitions.{Definition, is_line, line_of}
use Rattle.apl_names.specs.declared.binding.Binding.TheVariants as bindings
use Rattle.apl_names.specs.Maps.{Map, assigned}
use Rattle.apl_vectors.specs.Vectors.{has_line, vector_of}
use Rattle.apl_machine_state.specs.declared.output.OutLine.{OutLine}
use Rattle.apl_machine_state.specs.declared.operand.Operand.{Operand}
use Rattle.apl_machine_state.specs.declared.operand.Operand.TheVariants.{Value, Slots}
use Rattle.apl_machine_state.specs.declared.watch.Watch.TheVariants.{Stop, Trace}
use Rattle.apl_machine_state.specs.Items.{Item, Rest, Given, Awaited, reduced, answered, cells, kinds}
use Rattle.apl_machine_state.specs.Environment.{World, Context, Statement, Call, Execute, scene, environment, rest_of, with_rest, behind_statement}
use Rattle.apl_machine_state.specs.Reports.{abandoned}
use Rattle.apl_machine_state.specs.Watching.{arrow, blank, lines_array, traced}
use Rattle.apl_machine_state.specs.Calls.{begun_line, answered_by, answered_in, given_to, result_of}
use Rattle.apl_machine_state.specs.Outcomes.{Outcome, Becomes, Makes, Writes, Assigns, SetsOrigin, Enters, Watches, Faults}
use Rattle.apl_machine_state.specs.Changes.{Change, Rests, Moves, Asks, Arrives, rebinds, change_by, line_end, leads_nowhere, aim, returns, resumed, branch_to, branch, escape_to, change_at_end, change_of, change_in, change, shown_lines}
use Rattle.apl_machine_state.specs.State.{State, applied, arrived, comes_to}
use Rattle.apl_resume.specs.Cut.{is_quiet}
use Rattle.apl_resume.specs.Quiet.{IsCleanFunction, IsCleanMap, AreClean, IsCleanRest, IsCleanContext, AreCleanContexts, IsClean}
use Rattle.apl_resume.proofs.CleanItems.{replaced-clean, filled-clean, begun_of-clean, line_of-clean}
use Rattle.apl_resume.proofs.CleanRows.{IsCleanPhrase, phrase-clean}
use Rattle.apl_resume.proofs.CleanMaps.{AreCleanMaps, assigned-clean, environment-clean, with_maps-clean, left_over-clean, call_map-clean}
use Rattle.apl_resume.proofs.CleanOutcomes.{IsCleanOutcome, outcome-clean}

-- what a change leaves is clean, and it asks no stop vector
abbrev pub IsCleanChange : Change → Type 0
IsCleanChange Rests = Unit {0}
IsCleanChange (Moves w contexts lines ended) = IsCleanMap w.globals × AreCleanContexts contexts
IsCleanChange (Asks Stop w name lines given) = ⊥
IsCleanChange (Asks Trace w name lines given) = IsCleanMap w.globals × ((a : Arr) → AreCleanContexts (given a))
IsCleanChange (Arrives w d n locals below lines ended) = IsCleanMap w.globals × IsCleanFunction d × IsCleanMap locals × AreCleanContexts below

change-if : (b : Bool) (x y : Change) → IsCleanChange x → IsCleanChange y → IsCleanChange (if b then x else y)
change-if true x y h k = h
change-if false x y h k = k

-- contexts
rest-clean : (context : Context) → IsCleanContext context → IsCleanRest (rest_of context)
rest-clean (Call d n locals rest) h = h.2
rest-clean context h = h

with_rest-clean : (rest : Rest) (context : Context) → IsCleanContext context → AreClean rest.items → IsCleanContext (with_rest rest context)
with_rest-clean rest (Call d n locals old) h k = (h.0, h.1, k)
with_rest-clean rest context h k = k

abandoned-clean : (contexts : List Context) → AreCleanContexts contexts → AreCleanContexts (abandoned contexts)
abandoned-clean [] h = tt
abandoned-clean (Statement text rest ∷ below) h = h.1
abandoned-clean (Call d n locals rest ∷ below) h = ((h.0.0, h.0.1, tt), h.1)
abandoned-clean (Execute text rest ∷ below) h = abandoned-clean below h.1

behind-clean : (contexts : List Context) → AreCleanContexts contexts → AreCleanContexts (behind_statement contexts)
behind-clean [] h = tt
behind-clean (Statement text rest ∷ below) h = h.1
behind-clean (context ∷ below) h = behind-clean below h.1

-- an answer comes
items-clean : (answer : Option Arr) (context : Context) (below : List Context) (rest : Rest) (items : List Item) → IsCleanContext context → AreCleanContexts below → AreClean items → AreCleanContexts (answered_by context below rest (answered answer items)).contexts
items-clean (Some a) context below rest items c b h = (with_rest-clean _ context c (filled-clean a items h), b)
items-clean None context below rest [] c b h = abandoned-clean (context ∷ below) (c, b)
items-clean None context below rest (item ∷ []) c b h = (with_rest-clean _ context c tt, b)
items-clean None context below rest (item ∷ other ∷ items) c b h = abandoned-clean (context ∷ below) (c, b)

answered-clean : (answer : Option Arr) (context : Context) (below : List Context) (rest : Option Rest) → IsCleanContext context → AreCleanContexts below → IsCleanRest rest → AreCleanContexts (answered_in answer context below rest).contexts
answered-clean answer context below None c b h = (c, b)
answered-clean answer context below (Some rest) c b h = items-clean answer context below rest rest.items c b h

given-clean : (answer : Option Arr) (contexts : List Context) → AreCleanContexts contexts → AreCleanContexts (given_to contexts answer).contexts
given-clean answer [] h = tt
given-clean answer (context ∷ below) h = answered-clean answer context below (rest_of context) h.0 h.1 (rest-clean context h.0)

-- a call begins a line
begun_line-clean : (w : World) (d : Definition) (n : ℕ) (locals : Map) (below : List Context) → IsCleanFunction d → IsCleanMap locals → AreCleanContexts below → AreCleanContexts (begun_line w d n locals below)
begun_line-clean w d n locals below f l b = ((f, l, begun_of-clean w (Call d n locals None ∷ below) (tokens_of (line_of d n)) (line_of-clean d n f)), b)

-- a phrase is done
gives-clean : (context : Context) (below : List Context) (rest : Rest) (n : ℕ) (r : Row) (o : Operand) → IsCleanContext context → AreCleanContexts below → AreClean rest.items → AreCleanContexts (with_rest (reduced n r (Given o) rest) context ∷ below)
gives-clean context below rest n r o c b h = (with_rest-clean _ context c (replaced-clean n r (Given o) rest.items refl h), b)

rebinds-clean : (maps : List Map) (w : World) (contexts : List Context) → AreCleanMaps maps → AreCleanContexts contexts → IsCleanChange (rebinds maps w contexts)
rebinds-clean maps w contexts m h = (left_over-clean maps contexts m, with_maps-clean maps contexts m h)

change_by-clean : (w : World) (context : Context) (below : List Context) (rest : Rest) (n : ℕ) (r : Row) (o : Outcome) →
    IsCleanMap w.globals → IsCleanContext context → AreCleanContexts below → AreClean rest.items → IsCleanOutcome o → IsCleanChange (change_by w context below rest n r o)
change_by-clean w context below rest n r (Becomes value) g c b h o = (g, gives-clean context below rest n r (Value value) c b h)
change_by-clean w context below rest n r (Makes slots) g c b h o = (g, gives-clean context below rest n r (Slots slots) c b h)
change_by-clean w context below rest n r (Writes value) g c b h o = (g, gives-clean context below rest n r (Value value) c b h)
change_by-clean w context below rest n r (Assigns name array value) g c b h o =
    rebinds-clean (assigned (environment w (context ∷ below)) name (bindings.Value array)) w (with_rest (reduced n r (Given (Value value)) rest) context ∷ below)
    (assigned-clean (environment w (context ∷ below)) name (bindings.Value array) tt (environment-clean w (context ∷ below) g (c, b)))
    (gives-clean context below rest n r (Value value) c b h)
change_by-clean w context below rest n r (SetsOrigin io value) g c b h o = (g, gives-clean context below rest n r (Value value) c b h)
change_by-clean w context below rest n r (Enters d x y) g c b h o =
    (g, o, call_map-clean (scene w (context ∷ below)) d x y, (with_rest-clean _ context c (replaced-clean n r Awaited rest.items refl h), b))
change_by-clean w context below rest n r (Watches Trace name lines) g c b h o = (g, λ value. gives-clean context below rest n r (Value value) c b h)
change_by-clean w context below rest n r (Faults fault) g c b h o = (g, abandoned-clean (context ∷ below) (c, b))
change_by-clean w context below rest n r other g c b h o = absurd o

-- a line ends
line_end-clean : (w : World) (context : Context) (below : List Context) (value : Option Arr) (lines : List OutLine) → IsCleanMap w.globals → IsCleanContext context → AreCleanContexts below → IsCleanChange (line_end w context below value lines)
line_end-clean w (Statement text rest) below value lines g c b = (g, b)
line_end-clean w (Call d n locals rest) below value lines g c b = (g, c.0, c.1, b)
line_end-clean w (Execute text rest) below value lines g c b = (g, given-clean value below b)

resumed-clean : (w : World) (contexts : List Context) (aim : Option ℕ) → IsCleanMap w.globals → AreCleanContexts contexts → IsCleanChange (resumed w contexts aim)
resumed-clean w (Call d n locals rest ∷ below) (Some m) g h =
    change-if (is_line d m) (Moves w (begun_line w d m locals below) [] true) (returns w d locals below [] true)
    (g, begun_line-clean w d m locals below h.0.0 h.0.1 h.1) (g, given-clean (result_of d.header.result locals) below h.1)
resumed-clean w contexts aim g h = (g, h)

branch_to-clean : (w : World) (contexts : List Context) (aim : Option ℕ) (lines : List OutLine) → IsCleanMap w.globals → AreCleanContexts contexts → IsCleanChange (branch_to w contexts aim lines)
branch_to-clean w [] aim lines g h = tt
branch_to-clean w (Statement text rest ∷ below) aim lines g h = resumed-clean w below aim g h.1
branch_to-clean w (Call d n locals rest ∷ below) aim lines g h = (g, h.0.0, h.0.1, h.1)
branch_to-clean w (Execute text rest ∷ below) aim lines g h = branch_to-clean w below aim lines g h.1

branch-clean : (nowhere : Bool) (w : World) (contexts : List Context) (rest : Rest) (a : Arr) → IsCleanMap w.globals → AreCleanContexts contexts → IsCleanChange (branch nowhere w contexts rest a)
branch-clean true w contexts rest a g h = (g, abandoned-clean contexts h)
branch-clean false w contexts rest a g h = branch_to-clean w contexts (aim a.items) (traced w contexts arrow (display a)) g h

escape_to-clean : (w : World) (contexts : List Context) (lines : List OutLine) → IsCleanMap w.globals → AreCleanContexts contexts → IsCleanChange (escape_to w contexts lines)
escape_to-clean w [] lines g h = tt
escape_to-clean w (Statement text rest ∷ below) lines g h = (g, behind-clean below h.1)
escape_to-clean w (Call d n locals rest ∷ below) lines g h = (g, behind-clean below h.1)
escape_to-clean w (Execute text rest ∷ below) lines g h = escape_to-clean w below lines g h.1

at_end-clean : (w : World) (context : Context) (below : List Context) (rest : Rest) (end : Ending) (values : List (Option Operand)) → IsCleanMap w.globals → IsCleanContext context → AreCleanContexts below → IsCleanChange (change_at_end w context below rest end values)
at_end-clean w context below rest Nothing values g c b = line_end-clean w context below None (traced w (context ∷ below) [] []) g c b
at_end-clean w context below rest Hidden (Some (Value a) ∷ []) g c b = line_end-clean w context below (Some a) (traced w (context ∷ below) blank (display a)) g c b
at_end-clean w context below rest Shown (Some (Value a) ∷ []) g c b = line_end-clean w context below (Some a) (shown_lines a ++ traced w (context ∷ below) blank (display a)) g c b
at_end-clean w context below rest Branch (Some (Value a) ∷ []) g c b = branch-clean (leads_nowhere a.items) w (context ∷ below) rest a g (c, b)
at_end-clean w context below rest Escape values g c b = escape_to-clean w (context ∷ below) (traced w (context ∷ below) arrow []) g (c, b)
at_end-clean w context below rest end values g c b = (g, abandoned-clean (context ∷ below) (c, b))

-- a step
change_of-clean : (w : World) (context : Context) (below : List Context) (rest : Rest) (p : Option (ℕ × Row)) →
    IsCleanMap w.globals → IsCleanContext context → AreCleanContexts below → AreClean rest.items → IsCleanPhrase p → IsCleanChange (change_of w context below rest p)
change_of-clean w context below rest (Some p) g c b h r =
    change_by-clean w context below rest p.0 p.1 _ g c b h (outcome-clean (scene w (context ∷ below)) p.1 _ r (environment-clean w (context ∷ below) g (c, b)))
change_of-clean w context below rest None g c b h r = at_end-clean w context below rest (ending rest.assigned (kinds rest.items)) (held (cells rest.items)) g c b

change_in-clean : (w : World) (context : Context) (below : List Context) (rest : Option Rest) → IsCleanMap w.globals → IsCleanContext context → AreCleanContexts below → IsCleanRest rest → IsCleanChange (change_in w context below rest)
change_in-clean w context below None g c b h = tt
change_in-clean w context below (Some rest) g c b h = change_of-clean w context below rest (phrase None (kinds rest.items)) g c b h (phrase-clean rest.items h)

change-clean : (w : World) (contexts : List Context) → IsCleanMap w.globals → AreCleanContexts contexts → IsCleanChange (change w contexts)
change-clean w [] g h = tt
change-clean w (context ∷ below) g h = change_in-clean w context below (rest_of context) g h.0 h.1 (rest-clean context h.0)

comes-clean : (b : Bool) (s : State) (w : World) (d : Definition) (n : ℕ) (locals : Map) (below : List Context) (lines : List OutLine) (ended : Bool) →
    IsCleanMap w.globals → IsCleanFunction d → IsCleanMap locals → AreCleanContexts below → IsClean (comes_to b s w d n locals below lines ended).state
comes-clean true s w d n locals below lines ended g f l h = record { globals = g; contexts = ((f, l, tt), h) }
comes-clean false s w d n locals below lines ended g f l h = record { globals = g; contexts = begun_line-clean w d n locals below f l h }

arrived-clean : (b : Bool) (s : State) (w : World) (d : Definition) (n : ℕ) (locals : Map) (below : List Context) (lines : List OutLine) (ended : Bool) →
    IsCleanMap w.globals → IsCleanFunction d → IsCleanMap locals → AreCleanContexts below → IsClean (arrived b s w d n locals below lines ended).state
arrived-clean true s w d n locals below lines ended g f l h = comes-clean (has_line d.header.name n s.stops) s w d n locals below lines ended g f l h
arrived-clean false s w d n locals below lines ended g f l h = record { globals = g; contexts = given-clean (result_of d.header.result locals) below h }

applied-clean : (s : State) (c : Change) → IsClean s → IsCleanChange c → (is_quiet c ≡ true) × IsClean (applied s c).state
applied-clean s Rests h k = (refl, h)
applied-clean s (Moves w contexts lines ended) h k = (refl, record { globals = k.0; contexts = k.1 })
applied-clean s (Asks Stop w name lines given) h k = absurd k
applied-clean s (Asks Trace w name lines given) h k = (refl, record { globals = k.0; contexts = k.1 (lines_array (vector_of name w.traces)) })
applied-clean s (Arrives w d n locals below lines ended) h k = (refl, arrived-clean (is_line d n) s w d n locals below lines ended k.0 k.1 k.2 k.3)

pub step-clean : (s : State) → IsClean s → (is_quiet (change s.world s.contexts) ≡ true) × IsClean (applied s (change s.world s.contexts)).state
step-clean s h = applied-clean s (change s.world s.contexts) h (change-clean s.world s.contexts h.globals h.contexts)
