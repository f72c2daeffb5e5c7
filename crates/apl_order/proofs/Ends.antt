-- The contexts after a line end, a branch and an escape.
use Rattle.std.proofs.Common.{◌≡◌, ℕ, List, [], ◌∷◌, Bool, true, false, Option, Some, None, refl}
use Rattle.std.specs.Prelude.{if◌then◌else◌}
use Rattle.apl_arrays.specs.Cells.{Arr}
use Rattle.apl_code.specs.declared.row.Ending.{Ending}
use Rattle.apl_code.specs.declared.row.Ending.TheVariants.{Branch, Escape, Shown, Hidden, Nothing}
use Rattle.apl_format.specs.Display.{display}
use Rattle.apl_machine_state.specs.declared.output.OutLine.{OutLine}
use Rattle.apl_machine_state.specs.declared.operand.Operand.{Operand}
use Rattle.apl_machine_state.specs.declared.operand.Operand.TheVariants.{Value}
use Rattle.apl_defn.specs.Definitions.{is_line}
use Rattle.apl_machine_state.specs.Items.{Rest}
use Rattle.apl_machine_state.specs.Environment.{World, Context, Statement, Call, Execute}
use Rattle.apl_machine_state.specs.Watching.{arrow, traced}
use Rattle.apl_machine_state.specs.Changes.{Change, Rests, Moves, Asks, Arrives, line_end, leads_nowhere, aim, resumed, branch_to, branch, escape_to, change_at_end}
use Rattle.apl_order.specs.Order.{HasHoles, IsAtLine, IsSuspended, IsBelow, AreInOrder}
use Rattle.apl_order.proofs.Standing.{ArePendent, AreIdle, below-statement, below-call, below-execute, idle-order, order-below, behind-order}
use Rattle.apl_order.proofs.Answered.{abandoned-order, given-order, returned-order, begun-order}

-- A change leaves contexts in order, and a call that comes to a line contexts the newest of which awaits its answer.
abbrev pub KeepsOrder : Change → Type 0
KeepsOrder Rests = Unit {0}
KeepsOrder (Moves w contexts lines ended) = AreInOrder contexts
KeepsOrder (Asks which w name lines given) = (a : Arr) → AreInOrder (given a)
KeepsOrder (Arrives w d n locals below lines ended) = ArePendent below

keeps-if : (b : Bool) (x y : Change) → (b ≡ true → KeepsOrder x) → KeepsOrder y → KeepsOrder (if b then x else y)
keeps-if true x y p q = p refl
keeps-if false x y p q = q

line-end-keeps : (w : World) (context : Context) (below : List Context) (value : Option Arr) (lines : List OutLine) → IsBelow context below → KeepsOrder (line_end w context below value lines)
line-end-keeps w (Statement text rest) below value lines b = order-below text rest below b
line-end-keeps w (Call d n locals rest) below value lines b = below-call d n locals rest below b
line-end-keeps w (Execute text rest) below value lines b = given-order value below (below-execute text rest below b)

-- a typed branch, on what stands beneath its statement
resumed-keeps : (w : World) (contexts : List Context) (aim : Option ℕ) → AreIdle contexts → KeepsOrder (resumed w contexts aim)
resumed-keeps w [] aim h = tt
resumed-keeps w (Statement text rest ∷ below) aim h = idle-order (Statement text rest ∷ below) h
resumed-keeps w (Execute text rest ∷ below) aim h = idle-order (Execute text rest ∷ below) h
resumed-keeps w (Call d n locals rest ∷ below) None h = idle-order (Call d n locals rest ∷ below) h
resumed-keeps w (Call d n locals rest ∷ below) (Some m) h =
    let p : ArePendent below = below-call d n locals rest below h.2 in
    keeps-if (is_line d m) _ _ (λ at. begun-order w d m locals below at p) (returned-order d locals below p)

branch-to-keeps : (w : World) (context : Context) (below : List Context) (aim : Option ℕ) (lines : List OutLine) → IsBelow context below → KeepsOrder (branch_to w (context ∷ below) aim lines)
branch-to-keeps w (Statement text rest) below aim lines b = resumed-keeps w below aim (below-statement text rest below b)
branch-to-keeps w (Call d n locals rest) below aim lines b = below-call d n locals rest below b
branch-to-keeps w (Execute text rest) [] aim lines b = elim b [ ]
branch-to-keeps w (Execute text rest) (context ∷ below) aim lines b = branch-to-keeps w context below aim lines b.2

branch-keeps : (nowhere : Bool) (w : World) (context : Context) (below : List Context) (rest : Rest) (a : Arr) → IsAtLine context → IsBelow context below → KeepsOrder (branch nowhere w (context ∷ below) rest a)
branch-keeps true w context below rest a at b = abandoned-order context below at b
branch-keeps false w context below rest a at b = branch-to-keeps w context below (aim a.items) (traced w (context ∷ below) arrow (display a)) b

escape-keeps : (w : World) (context : Context) (below : List Context) (lines : List OutLine) → IsBelow context below → KeepsOrder (escape_to w (context ∷ below) lines)
escape-keeps w (Statement text rest) below lines b = behind-order (Unit {0}) IsSuspended below (below-statement text rest below b)
escape-keeps w (Call d n locals rest) below lines b = behind-order ⊥ (HasHoles 1) below (below-call d n locals rest below b)
escape-keeps w (Execute text rest) [] lines b = elim b [ ]
escape-keeps w (Execute text rest) (context ∷ below) lines b = escape-keeps w context below lines b.2

-- a line ends at which no phrase begins
pub ends-keep : (w : World) (context : Context) (below : List Context) (rest : Rest) (end : Ending) (held : List (Option Operand)) → IsAtLine context → IsBelow context below → KeepsOrder (change_at_end w context below rest end held)
ends-keep w context below rest Nothing held at b = line-end-keeps w context below None _ b
ends-keep w context below rest Hidden (Some (Value a) ∷ []) at b = line-end-keeps w context below (Some a) _ b
ends-keep w context below rest Shown (Some (Value a) ∷ []) at b = line-end-keeps w context below (Some a) _ b
ends-keep w context below rest Branch (Some (Value a) ∷ []) at b = branch-keeps (leads_nowhere a.items) w context below rest a at b
ends-keep w context below rest Escape held at b = escape-keeps w context below _ b
ends-keep w context below rest end held at b = abandoned-order context below at b
