-- Savable contexts where a line ends, branches, is answered or is dropped.
use Rattle.std.proofs.Common.{◌≡◌, ℕ, ◌≤◌, Bool, true, false, List, [], ◌∷◌, Option, Some, None, refl, sym, subst}
use Rattle.std.specs.Prelude.{if◌then◌else◌}
use Rattle.apl_arrays.specs.Cells.{Arr}
use Rattle.apl_code.specs.declared.row.Ending.{Ending}
use Rattle.apl_code.specs.declared.row.Ending.TheVariants.{Branch, Escape, Shown, Hidden, Nothing}
use Rattle.apl_format.specs.Display.{display}
use Rattle.apl_tokens.specs.Tokens.{tokens_of}
use Rattle.apl_translate.specs.Translation.{held}
use Rattle.apl_defn.specs.Definitions.{Text, Definition, is_line, line_of}
use Rattle.apl_names.specs.Maps.{Map, said}
use Rattle.apl_machine_state.specs.declared.output.OutLine.{OutLine}
use Rattle.apl_machine_state.specs.declared.operand.Operand.{Operand}
use Rattle.apl_machine_state.specs.declared.operand.Operand.TheVariants.{Value}
use Rattle.apl_machine_state.specs.Items.{Item, Rest, answered, filled}
use Rattle.apl_machine_state.specs.Environment.{World, Context, Statement, Call, Execute, behind_statement, origin_name, rest_of, with_rest}
use Rattle.apl_machine_state.specs.Reports.{abandoned}
use Rattle.apl_machine_state.specs.Calls.{answered_by, answered_in, begun_line, begun_of, given_to, result_of as answer_of, returned}
use Rattle.apl_vectors.specs.Vectors.{after_asking}
use Rattle.apl_machine_state.specs.Watching.{arrow, traced}
use Rattle.apl_machine_state.specs.declared.watch.Watch.TheVariants.{Stop, Trace}
use Rattle.apl_machine_state.specs.Changes.{Change, Rests, Moves, Asks, Arrives, aim, branch, branch_to, change_at_end, escape_to, leads_nowhere, line_end, resumed}
use Rattle.apl_order.specs.Order.{HasHoles, IsBelow, holes}
use Rattle.apl_order.proofs.Standing.{AreIdle, ArePendent, below-call, below-execute, below-statement}
use Rattle.apl_savable.specs.Savable.{AreSavable, IsCalledBy, IsOriginBy, IsSavableContext, IsUnderWay, IsUnderWayIn}
use Rattle.apl_savable.proofs.Likes.{called-like, rest-like}
use Rattle.apl_savable.proofs.Lines.{pendent-line}
use Rattle.apl_savable.proofs.Maps.{AreNamed}
use Rattle.apl_savable.proofs.UnderWay.{answered-under-way, begun-in-under-way, emptied-under-way}

-- ---- contexts that are dropped

pub abandoned-savable : (contexts : List Context) → AreSavable contexts → AreSavable (abandoned contexts)
abandoned-savable [] h = h
abandoned-savable (Statement text rest ∷ below) h = h.2
abandoned-savable (Call d n locals rest ∷ below) h = ((h.0.0, tt), called-like (Call d n locals rest) (Call d n locals None) below refl h.1, h.2)
abandoned-savable (Execute text rest ∷ below) h = abandoned-savable below h.2

pub behind-savable : (contexts : List Context) → AreSavable contexts → AreSavable (behind_statement contexts)
behind-savable [] h = h
behind-savable (Statement text rest ∷ below) h = h.2
behind-savable (Call d n locals rest ∷ below) h = behind-savable below h.2
behind-savable (Execute text rest ∷ below) h = behind-savable below h.2

-- ---- another rest of a line

pub line_text : Context → Text
line_text (Statement text rest) = text
line_text (Call d n locals rest) = line_of d n
line_text (Execute text rest) = text

pub some-rest : (old was : Rest) → Some was ≡ Some old → was ≡ old
some-rest old was e = cc

pub line-under-way : (c : Context) (rest : Rest) → rest_of c ≡ Some rest → IsSavableContext c → IsUnderWay (line_text c) rest
unfolding line_text
line-under-way (Statement text was) rest e h = subst (IsUnderWay text) (some-rest rest was e) h.1
line-under-way (Call d n locals was) rest e h = subst (IsUnderWayIn (line_of d n)) e h.1
line-under-way (Execute text was) rest e h = subst (IsUnderWay text) (some-rest rest was e) h.1

pub with-context : (rest : Rest) (c : Context) → IsUnderWay (line_text c) rest → IsSavableContext c → IsSavableContext (with_rest rest c)
unfolding line_text
with-context rest (Statement text was) u h = (h.0, u)
with-context rest (Call d n locals was) u h = (h.0, u)
with-context rest (Execute text was) u h = (h.0, u)

pub with-savable : (rest : Rest) (c : Context) (below : List Context) → IsUnderWay (line_text c) rest → AreSavable (c ∷ below) → AreSavable (with_rest rest c ∷ below)
with-savable rest c below u h = (with-context rest c u h.0, called-like c (with_rest rest c) below (rest-like rest c) h.1, h.2)

pub rest-with : (rest : Rest) (c : Context) → rest_of (with_rest rest c) ≡ Some rest
rest-with rest (Statement text old) = refl
rest-with rest (Call d n locals old) = refl
rest-with rest (Execute text old) = refl

-- ---- answers

pub answered-savable : (answer : Option Arr) (c : Context) (below : List Context) (rest : Rest) (is : List Item) → is ≡ rest.items → rest_of c ≡ Some rest → holes rest.items ≡ 1 → AreSavable (c ∷ below) → AreSavable (answered_by c below rest (answered answer is)).contexts
answered-savable (Some a) c below rest is e r one h =
    let u = line-under-way c rest r h.0 in
    with-savable (record rest { items = filled a is }) c below (subst (λ (js : List Item). IsUnderWay (line_text c) (record rest { items = filled a js })) (sym e) (answered-under-way (line_text c) rest u a (pendent-line (line_text c) rest u one))) h
answered-savable None c below rest [] e r one h = abandoned-savable (c ∷ below) h
answered-savable None c below rest (i ∷ []) e r one h =
    let u = line-under-way c rest r h.0 in
    with-savable (record rest { items = [] }) c below (emptied-under-way (line_text c) rest u (pendent-line (line_text c) rest u one)) h
answered-savable None c below rest (i ∷ j ∷ is) e r one h = abandoned-savable (c ∷ below) h

pub answered-in-savable : (answer : Option Arr) (c : Context) (below : List Context) (rest : Option Rest) → rest_of c ≡ rest → HasHoles 1 rest → AreSavable (c ∷ below) → AreSavable (answered_in answer c below rest).contexts
answered-in-savable answer c below None e one h = absurd one
answered-in-savable answer c below (Some rest) e one h = answered-savable answer c below rest rest.items refl e one h

pub given-savable : (answer : Option Arr) (contexts : List Context) → ArePendent contexts → AreSavable contexts → AreSavable (given_to contexts answer).contexts
given-savable answer [] p h = absurd p
given-savable answer (c ∷ below) p h = answered-in-savable answer c below (rest_of c) refl p.1 h

pub returned-savable : (d : Definition) (locals : Map) (below : List Context) → ArePendent below → AreSavable below → AreSavable (returned d locals below).contexts
returned-savable d locals below p h = given-savable (answer_of d.header.result locals) below p h

-- ---- changes

-- what is kept beside the order of contexts, their maps and the vectors
pub record Saves (w : World) (contexts : List Context) : Type 0 where
  pub origin : w.io ≤ 1
  pub named : AreNamed w.globals
  pub savable : AreSavable contexts

pub saves-with : (w : World) (old contexts : List Context) → Saves w old → AreSavable contexts → Saves w contexts
saves-with w old contexts h s = record { origin = h.origin; named = h.named; savable = s }

-- a call over these contexts can begin a line
pub record CanBegin (d : Definition) (locals : Map) (below : List Context) : Type 0 where
  pub pendent : ArePendent below
  pub origin : IsOriginBy (said locals origin_name)
  pub called : IsCalledBy (Call d 0 [] None) below

abbrev pub SavesAll : Change → Type 0
SavesAll Rests = Unit {0}
SavesAll (Moves w contexts lines ended) = Saves w contexts
SavesAll (Asks Stop w name lines given) = (a : Arr) → Saves w (given a)
SavesAll (Asks Trace w name lines given) = (a : Arr) → Saves (record w { traces = after_asking name lines w.traces }) (given a)
SavesAll (Arrives w d n locals below lines ended) = Saves w below × CanBegin d locals below

pub under-call : (d : Definition) (n : ℕ) (locals : Map) (rest : Option Rest) (below : List Context) → IsBelow (Call d n locals rest) below → AreSavable (Call d n locals rest ∷ below) → CanBegin d locals below
under-call d n locals rest below b h = record { pendent = below-call d n locals rest below b; origin = h.0.0; called = called-like (Call d n locals rest) (Call d 0 [] None) below refl h.1 }

pub begun-savable : (w : World) (d : Definition) (n : ℕ) (locals : Map) (below : List Context) → CanBegin d locals below → AreSavable below → AreSavable (begun_line w d n locals below)
begun-savable w d n locals below c h =
    let above : List Context = Call d n locals None ∷ below in
    let line = begun_of w above (tokens_of (line_of d n)) in
    ((c.origin, begun-in-under-way w above (line_of d n) (tokens_of (line_of d n)) refl), called-like (Call d 0 [] None) (Call d n locals line) below refl c.called, h)

pub stopped-savable : (d : Definition) (n : ℕ) (locals : Map) (below : List Context) → CanBegin d locals below → AreSavable below → AreSavable (Call d n locals None ∷ below)
stopped-savable d n locals below c h = ((c.origin, tt), called-like (Call d 0 [] None) (Call d n locals None) below refl c.called, h)

pub line-end-saves : (w : World) (c : Context) (below : List Context) (value : Option Arr) (lines : List OutLine) → IsBelow c below → Saves w (c ∷ below) → SavesAll (line_end w c below value lines)
line-end-saves w (Statement text rest) below value lines b h = saves-with w _ below h h.savable.2
line-end-saves w (Call d n locals rest) below value lines b h = (saves-with w _ below h h.savable.2, under-call d n locals rest below b h.savable)
line-end-saves w (Execute text rest) below value lines b h = saves-with w _ (given_to below value).contexts h (given-savable value below (below-execute text rest below b) h.savable.2)

pub saves-if : (t : Bool) (x y : Change) → SavesAll x → SavesAll y → SavesAll (if t then x else y)
saves-if true x y p q = p
saves-if false x y p q = q

pub resumed-saves : (w : World) (contexts : List Context) (aim : Option ℕ) → AreIdle contexts → Saves w contexts → SavesAll (resumed w contexts aim)
resumed-saves w [] aim i h = h
resumed-saves w (Statement text rest ∷ below) aim i h = h
resumed-saves w (Execute text rest ∷ below) aim i h = h
resumed-saves w (Call d n locals rest ∷ below) None i h = h
resumed-saves w (Call d n locals rest ∷ below) (Some m) i h =
    let c = under-call d n locals rest below i.2 h.savable in
    saves-if (is_line d m) _ _ (saves-with w _ (begun_line w d m locals below) h (begun-savable w d m locals below c h.savable.2)) (saves-with w _ (returned d locals below).contexts h (returned-savable d locals below c.pendent h.savable.2))

pub branch-to-saves : (w : World) (c : Context) (below : List Context) (aim : Option ℕ) (lines : List OutLine) → IsBelow c below → Saves w (c ∷ below) → SavesAll (branch_to w (c ∷ below) aim lines)
branch-to-saves w (Statement text rest) below aim lines b h = resumed-saves w below aim (below-statement text rest below b) (saves-with w _ below h h.savable.2)
branch-to-saves w (Call d n locals rest) below aim lines b h = (saves-with w _ below h h.savable.2, under-call d n locals rest below b h.savable)
branch-to-saves w (Execute text rest) [] aim lines b h = absurd b
branch-to-saves w (Execute text rest) (c ∷ below) aim lines b h = branch-to-saves w c below aim lines b.2 (saves-with w _ (c ∷ below) h h.savable.2)

pub branch-saves : (nowhere : Bool) (w : World) (c : Context) (below : List Context) (rest : Rest) (a : Arr) → IsBelow c below → Saves w (c ∷ below) → SavesAll (branch nowhere w (c ∷ below) rest a)
branch-saves true w c below rest a b h = saves-with w _ (abandoned (c ∷ below)) h (abandoned-savable (c ∷ below) h.savable)
branch-saves false w c below rest a b h = branch-to-saves w c below (aim a.items) (traced w (c ∷ below) arrow (display a)) b h

pub escape-saves : (w : World) (contexts : List Context) (lines : List OutLine) → Saves w contexts → SavesAll (escape_to w contexts lines)
escape-saves w [] lines h = tt
escape-saves w (Statement text rest ∷ below) lines h = saves-with w _ (behind_statement below) h (behind-savable below h.savable.2)
escape-saves w (Call d n locals rest ∷ below) lines h = saves-with w _ (behind_statement below) h (behind-savable below h.savable.2)
escape-saves w (Execute text rest ∷ below) lines h = escape-saves w below lines (saves-with w _ below h h.savable.2)

pub ends-save : (w : World) (c : Context) (below : List Context) (rest : Rest) (end : Ending) (held : List (Option Operand)) → IsBelow c below → Saves w (c ∷ below) → SavesAll (change_at_end w c below rest end held)
ends-save w c below rest Nothing held b h = line-end-saves w c below None _ b h
ends-save w c below rest Hidden (Some (Value a) ∷ []) b h = line-end-saves w c below (Some a) _ b h
ends-save w c below rest Shown (Some (Value a) ∷ []) b h = line-end-saves w c below (Some a) _ b h
ends-save w c below rest Branch (Some (Value a) ∷ []) b h = branch-saves (leads_nowhere a.items) w c below rest a b h
ends-save w c below rest Escape held b h = escape-saves w (c ∷ below) _ h
ends-save w c below rest end held b h = saves-with w _ (abandoned (c ∷ below)) h (abandoned-savable (c ∷ below) h.savable)
