-- The contexts after a fault, after an answer, and when a line has begun.
use Rattle.std.proofs.Common.{◌≡◌, ℕ, List, [], ◌∷◌, true, Option, Some, None, map, refl}
use Rattle.std.specs.Prelude.{Result, Ok, Err}
use Rattle.apl_arrays.specs.Cells.{Arr}
use Rattle.apl_tokens.specs.declared.token.Token.{Token}
use Rattle.apl_tokens.specs.declared.line.TokenError.{TokenError}
use Rattle.apl_tokens.specs.Tokens.{tokens_of}
use Rattle.apl_translate.specs.Binding.{bound_of, names_of}
use Rattle.apl_defn.specs.Definitions.{Definition, is_line, line_of}
use Rattle.apl_names.specs.Maps.{Map}
use Rattle.apl_machine_state.specs.Items.{Item, Rest, answered, filled}
use Rattle.apl_machine_state.specs.Environment.{World, Context, Statement, Call, Execute, class_of, rest_of}
use Rattle.apl_machine_state.specs.Reports.{abandoned}
use Rattle.apl_machine_state.specs.Calls.{line_begun, begun_of, begun_line, answered_by, answered_in, given_to, returned, result_of}
use Rattle.apl_order.specs.Order.{holes, HasHoles, HasNoHole, IsAtLine, IsBelow, AreInOrder}
use Rattle.apl_order.proofs.Holes.{holes-filled, holes-fresh}
use Rattle.apl_order.proofs.Standing.{ArePendent, below-call, call-above, order-below, order-with}

-- a fault in a context that runs or awaits an answer
pub abandoned-order : (context : Context) (below : List Context) → IsAtLine context → IsBelow context below → AreInOrder (abandoned (context ∷ below))
abandoned-order (Statement text rest) below at b = order-below text rest below b
abandoned-order (Call d n locals rest) below at b = (at, tt, call-above d n locals None below (below-call d n locals rest below b))
abandoned-order (Execute text rest) [] at b = elim b [ ]
abandoned-order (Execute text rest) (context ∷ below) at b = abandoned-order context below b.0 b.2

-- an answer comes to a context
answered-order : (answer : Option Arr) (xs : List Item) (context : Context) (below : List Context) (rest : Rest) → IsAtLine context → IsBelow context below → AreInOrder (answered_by context below rest (answered answer xs)).contexts
answered-order (Some a) xs context below rest at b = order-with (record rest { items = filled a xs }) context below (holes-filled a xs) at b
answered-order None [] context below rest at b = abandoned-order context below at b
answered-order None (x ∷ []) context below rest at b = order-with (record rest { items = [] }) context below refl at b
answered-order None (x ∷ y ∷ xs) context below rest at b = abandoned-order context below at b

answered-in-order : (answer : Option Arr) (context : Context) (below : List Context) (rest : Option Rest) → IsAtLine context → HasHoles 1 rest → IsBelow context below → AreInOrder (answered_in answer context below rest).contexts
answered-in-order answer context below None at one b = elim one [ ]
answered-in-order answer context below (Some rest) at one b = answered-order answer rest.items context below rest at b

-- to the newest, which awaits it
pub given-order : (answer : Option Arr) (contexts : List Context) → ArePendent contexts → AreInOrder (given_to contexts answer).contexts
given-order answer [] h = elim h [ ]
given-order answer (context ∷ below) h = answered-in-order answer context below (rest_of context) h.0 h.1 h.2

-- a call over these contexts returns
pub returned-order : (d : Definition) (locals : Map) (below : List Context) → ArePendent below → AreInOrder (returned d locals below).contexts
returned-order d locals below h = given-order (result_of d.header.result locals) below h

-- a line that begins has no hole
pub begun-whole : (w : World) (contexts : List Context) (tokens : List Token) → holes (line_begun w contexts tokens).items ≡ 0
begun-whole w contexts tokens = holes-fresh (bound_of tokens (map (class_of w contexts) (names_of tokens)))

begun-of-whole : (w : World) (contexts : List Context) (tokens : Result (List Token) TokenError) → HasNoHole (begun_of w contexts tokens)
begun-of-whole w contexts (Ok tokens) = begun-whole w contexts tokens
begun-of-whole w contexts (Err error) = tt

-- a call over these contexts begins a line
pub begun-order : (w : World) (d : Definition) (n : ℕ) (locals : Map) (below : List Context) → is_line d n ≡ true → ArePendent below → AreInOrder (begun_line w d n locals below)
begun-order w d n locals below at h =
    let tokens : Result (List Token) TokenError = tokens_of (line_of d n) in
    let above : List Context = Call d n locals None ∷ below in
    (at, begun-of-whole w above tokens, call-above d n locals (begun_of w above tokens) below h)
