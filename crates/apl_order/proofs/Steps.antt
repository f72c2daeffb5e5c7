-- Steps, interrupts and statements keep the contexts in order.
use Rattle.std.proofs.Common.{◌≡◌, ℕ, List, [], ◌∷◌, Bool, true, false, Option, Some, None, refl}
use Rattle.std.specs.Prelude.{Result, Ok, Err}
use Rattle.apl_code.specs.declared.row.Row.{Row}
use Rattle.apl_tokens.specs.declared.token.Token.{Token}
use Rattle.apl_tokens.specs.declared.line.TokenError.{TokenError}
use Rattle.apl_tokens.specs.Tokens.{tokens_of}
use Rattle.apl_translate.specs.Phrase.{phrase}
use Rattle.apl_translate.specs.Translation.{held, ending}
use Rattle.apl_machine_state.specs.declared.output.OutLine.{OutLine}
use Rattle.apl_machine_state.specs.declared.operand.Operand.{Operand}
use Rattle.apl_machine_state.specs.declared.operand.Operand.TheVariants.{Value, Slots}
use Rattle.apl_machine_state.specs.declared.watch.Watch.TheVariants.{Stop, Trace}
use Rattle.apl_vectors.specs.Vectors.{has_line, vector_of}
use Rattle.apl_defn.specs.Definitions.{Text, Definition, is_line}
use Rattle.apl_names.specs.declared.binding.Binding.TheVariants as bindings
use Rattle.apl_names.specs.Maps.{Map, assigned}
use Rattle.apl_machine_state.specs.Items.{Given, Awaited, Rest, kinds, cells, reduced}
use Rattle.apl_machine_state.specs.Environment.{World, Context, environment, rest_of, with_rest}
use Rattle.apl_machine_state.specs.Reports.{abandoned}
use Rattle.apl_machine_state.specs.Calls.{line_begun}
use Rattle.apl_machine_state.specs.Outcomes.{Outcome, Becomes, Makes, Writes, Assigns, SetsOrigin, Enters, Watches, Executes, Faults}
use Rattle.apl_machine_state.specs.Watching.{lines_array}
use Rattle.apl_machine_state.specs.Changes.{Change, Rests, Moves, Asks, Arrives, change, change_in, change_of, change_by}
use Rattle.apl_machine_state.specs.Texts.{colon_of}
use Rattle.apl_machine_state.specs.State.{State, is_idle, applied, arrived, comes_to, interrupted}
use Rattle.apl_machine_state.specs.Beginning.{begun_by, started}
use Rattle.apl_order.specs.Order.{holes, HasNoHole, IsAtLine, IsBelow, AreInOrder, StepsKeepOrder, InterruptsKeepOrder, StatementsKeepOrder}
use Rattle.apl_order.proofs.Holes.{holes-replaced}
use Rattle.apl_order.proofs.Standing.{ArePendent, order-with, pendent-with, order-idle, maps-order, statement-above, call-above, execute-above}
use Rattle.apl_order.proofs.Answered.{abandoned-order, returned-order, begun-whole, begun-order}
use Rattle.apl_order.proofs.Ends.{KeepsOrder, ends-keep}

-- the contexts when a phrase has come to an operand
given-keeps : (context : Context) (below : List Context) (rest : Rest) (n : ℕ) (row : Row) (o : Operand) →
    holes rest.items ≡ 0 → IsAtLine context → IsBelow context below → AreInOrder (with_rest (reduced n row (Given o) rest) context ∷ below)
given-keeps context below rest n row o none at b = order-with (reduced n row (Given o) rest) context below (holes-replaced n row (Given o) rest.items none) at b

-- or awaits an answer
awaited-keeps : (context : Context) (below : List Context) (rest : Rest) (n : ℕ) (row : Row) →
    holes rest.items ≡ 0 → IsAtLine context → IsBelow context below → ArePendent (with_rest (reduced n row Awaited rest) context ∷ below)
awaited-keeps context below rest n row none at b = pendent-with (reduced n row Awaited rest) context below (holes-replaced n row Awaited rest.items none) at b

-- what a phrase comes to
phrase-keeps : (w : World) (context : Context) (below : List Context) (rest : Rest) (n : ℕ) (row : Row) (o : Outcome) →
    holes rest.items ≡ 0 → IsAtLine context → IsBelow context below → KeepsOrder (change_by w context below rest n row o)
phrase-keeps w context below rest n row (Becomes value) none at b = given-keeps context below rest n row (Value value) none at b
phrase-keeps w context below rest n row (Makes slots) none at b = given-keeps context below rest n row (Slots slots) none at b
phrase-keeps w context below rest n row (Writes value) none at b = given-keeps context below rest n row (Value value) none at b
phrase-keeps w context below rest n row (Assigns name array value) none at b =
    maps-order (assigned (environment w (context ∷ below)) name (bindings.Value array)) (with_rest (reduced n row (Given (Value value)) rest) context ∷ below) (given-keeps context below rest n row (Value value) none at b)
phrase-keeps w context below rest n row (SetsOrigin io value) none at b = given-keeps context below rest n row (Value value) none at b
phrase-keeps w context below rest n row (Enters d x y) none at b = awaited-keeps context below rest n row none at b
phrase-keeps w context below rest n row (Watches which name lines) none at b = λ value. given-keeps context below rest n row (Value value) none at b
phrase-keeps w context below rest n row (Executes text tokens) none at b =
    let pendent : List Context = with_rest (reduced n row Awaited rest) context ∷ below in
    (tt, begun-whole w (context ∷ below) tokens, execute-above text (line_begun w (context ∷ below) tokens) pendent (awaited-keeps context below rest n row none at b))
phrase-keeps w context below rest n row (Faults fault) none at b = abandoned-order context below at b

change-of-keeps : (w : World) (context : Context) (below : List Context) (rest : Rest) (p : Option (ℕ × Row)) → holes rest.items ≡ 0 → IsAtLine context → IsBelow context below → KeepsOrder (change_of w context below rest p)
change-of-keeps w context below rest (Some p) none at b = phrase-keeps w context below rest p.0 p.1 _ none at b
change-of-keeps w context below rest None none at b = ends-keep w context below rest (ending rest.assigned (kinds rest.items)) (held (cells rest.items)) at b

change-in-keeps : (w : World) (context : Context) (below : List Context) (rest : Option Rest) → HasNoHole rest → IsAtLine context → IsBelow context below → KeepsOrder (change_in w context below rest)
change-in-keeps w context below None none at b = tt
change-in-keeps w context below (Some rest) none at b = change-of-keeps w context below rest (phrase None (kinds rest.items)) none at b

change-keeps : (w : World) (contexts : List Context) → AreInOrder contexts → KeepsOrder (change w contexts)
change-keeps w [] h = tt
change-keeps w (context ∷ below) h = change-in-keeps w context below (rest_of context) h.1 h.0 h.2

-- a call comes to a line of its definition, or returns
comes-order : (stops : Bool) (s : State) (w : World) (d : Definition) (n : ℕ) (locals : Map) (below : List Context) (lines : List OutLine) (ended : Bool) →
    is_line d n ≡ true → ArePendent below → AreInOrder (comes_to stops s w d n locals below lines ended).state.contexts
comes-order true s w d n locals below lines ended at h = (at, tt, call-above d n locals None below h)
comes-order false s w d n locals below lines ended at h = begun-order w d n locals below at h

arrived-order : (b : Bool) (s : State) (w : World) (d : Definition) (n : ℕ) (locals : Map) (below : List Context) (lines : List OutLine) (ended : Bool) →
    is_line d n ≡ b → ArePendent below → AreInOrder (arrived b s w d n locals below lines ended).state.contexts
arrived-order true s w d n locals below lines ended at h = comes-order (has_line d.header.name n s.stops) s w d n locals below lines ended at h
arrived-order false s w d n locals below lines ended at h = returned-order d locals below h

applied-order : (s : State) (c : Change) → AreInOrder s.contexts → KeepsOrder c → AreInOrder (applied s c).state.contexts
applied-order s Rests h keeps = h
applied-order s (Moves w contexts lines ended) h keeps = keeps
applied-order s (Asks Stop w name lines given) h keeps = keeps (lines_array (vector_of name s.stops))
applied-order s (Asks Trace w name lines given) h keeps = keeps (lines_array (vector_of name w.traces))
applied-order s (Arrives w d n locals below lines ended) h keeps = arrived-order (is_line d n) s w d n locals below lines ended refl keeps

-- each step keeps the contexts in order,
pub step-order : StepsKeepOrder
step-order s h = applied-order s (change s.world s.contexts) h (change-keeps s.world s.contexts h)

dropped-order : (contexts : List Context) → AreInOrder contexts → AreInOrder (abandoned contexts)
dropped-order [] h = tt
dropped-order (context ∷ below) h = abandoned-order context below h.0 h.2

interrupted-order : (b : Bool) (s : State) → AreInOrder s.contexts → AreInOrder (interrupted b s).contexts
interrupted-order true s h = h
interrupted-order false s h = dropped-order s.contexts h

-- each interrupt does,
pub interrupt-order : InterruptsKeepOrder
interrupt-order s h = interrupted-order (is_idle s) s h

started-order : (s : State) (text : Text) (tokens : List Token) (colon : Option ℕ) → is_idle s ≡ true → AreInOrder s.contexts → AreInOrder (started s text tokens colon).contexts
started-order s text tokens (Some at) idle h = h
started-order s text tokens None idle h =
    let line : Rest = line_begun s.world s.contexts tokens in
    (tt, begun-whole s.world s.contexts tokens, statement-above text line s.contexts (order-idle s.contexts idle h))

begun-by-order : (s : State) (text : Text) (tokens : Result (List Token) TokenError) → is_idle s ≡ true → AreInOrder s.contexts → AreInOrder (begun_by s text tokens).contexts
begun-by-order s text (Ok tokens) idle h = started-order s text tokens (colon_of tokens) idle h
begun-by-order s text (Err error) idle h = h

-- and so does each statement that begins
pub statement-order : StatementsKeepOrder
statement-order s text idle h = begun-by-order s text (tokens_of text) idle h
