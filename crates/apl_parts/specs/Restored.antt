-- The state of parts.
use Rattle.std.specs.Prelude.{◌≡◌, ℕ, suc, ◌<◌, ◌≤◌, false, true, List, [], ◌∷◌, ◌++◌}
use Rattle.std.specs.Prelude.{All, map, length, reverse, Option, Some, None, Result, Ok, Err, option_map}
use Rattle.apl_arrays.specs.Cells.{Arr}
use Rattle.apl_symbols.specs.declared.class.Class.{Class}
use Rattle.apl_tokens.specs.declared.token.Token.{Token}
use Rattle.apl_tokens.specs.declared.line.TokenError.{TokenError}
use Rattle.apl_tokens.specs.Tokens.{tokens_of}
use Rattle.apl_code.specs.declared.instr.Instr.{Instr}
use Rattle.apl_translate.specs.Binding.{bound_of}
use Rattle.apl_translate.specs.Forms.{forms_after}
use Rattle.apl_translate.specs.Lines.{Line}
use Rattle.apl_translate.specs.Translation.{Translates}
use Rattle.apl_vectors.specs.Vectors.{Vectors, with_vector}
use Rattle.apl_defn.specs.Definitions.{Text, is_line, line_of}
use Rattle.apl_defn.specs.Defining.{IsDefined}
use Rattle.apl_names.specs.declared.binding.Binding.{Binding}
use Rattle.apl_names.specs.declared.binding.Binding.TheVariants.{Value, Function}
use Rattle.apl_names.specs.Maps.{Map, map_of}
use Rattle.apl_machine_state.specs.Items.{Rest}
use Rattle.apl_machine_state.specs.Environment as model
use Rattle.apl_machine_state.specs.Calls.{bound_to, label_of}
use Rattle.apl_machine_state.specs.State.{State, clear}
use Rattle.apl_order.specs.Kept.{AreLines, names_in}
use Rattle.apl_frames.specs.declared.frame.Stage.TheVariants.{Pendent}
use Rattle.apl_frames.specs.Flat.{HasKinds, rest_with}
use Rattle.apl_contexts.specs.Contexts.{Place, Newest, Beneath, Idle}
use Rattle.apl_parts.specs.declared.parts.ContextPart.{ContextPart}
use Rattle.apl_parts.specs.declared.parts.ContextPart.TheVariants.{Statement, Call, Execute}
use Rattle.apl_parts.specs.Pieces.{Waiting, Standing, Watched}
use Rattle.apl_parts.specs.Workspaces.{Pieces}

-- a line of these tokens, whose names were bound with these classes
abbrev pub line_by : Result (List Token) TokenError → List Class → Line
line_by (Ok tokens) given = bound_of tokens given
line_by (Err error) given = record { items = []; constants = [] }

-- what is kept of the line of a text stands for this: so many phrases are done, and the last of them awaits its answer
abbrev pub rest_of : Text → Waiting → Rest
rest_of text w = rest_with Pendent (line_by (tokens_of text) w.classes) w.done (reverse w.operands)

-- what the names of a call stand for, its labels among them
abbrev pub names_of : Standing → List (Text × Binding)
names_of c = map (λ local. (local.0, bound_to local.1)) c.locals ++ map label_of c.definition.labels

-- the context of a part
abbrev pub context_of : ContextPart → model.Context
context_of (Statement s) = model.Statement s.text (rest_of s.text s.rest)
context_of (Call c) = model.Call c.definition c.at (map_of (names_of c)) (option_map (rest_of (line_of c.definition c.at)) c.rest)
context_of (Execute s) = model.Execute s.text (rest_of s.text s.rest)

abbrev pub function_entry : Watched → Text × Binding
function_entry f = (f.definition.header.name, Function f.definition)

abbrev pub variable_entry : Text × Arr → Text × Binding
variable_entry v = (v.0, Value v.1)

-- the global map
abbrev pub globals_of : Pieces → Map
globals_of p = map_of (map function_entry p.functions ++ map variable_entry p.variables)

-- the stop or trace vectors of functions
abbrev pub vectors_of : (Watched → List ℕ) → List Watched → Vectors
vectors_of which [] = []
vectors_of which (f ∷ fs) = with_vector f.definition.header.name (which f) (vectors_of which fs)

-- the state of parts: nothing is written, and no definition is open
abbrev pub state_of : Pieces → State
state_of p = record clear {
  world = record { traces = vectors_of (λ f. f.traces) p.functions; globals = globals_of p; io = p.origin };
  stops = vectors_of (λ f. f.stops) p.functions;
  contexts = reverse (map context_of p.contexts);
}

-- ---- which parts stand for a state

-- The text is a line, some phrase of it is not done, and the operands are of the kinds that it wants when the answer has come.
pub record IsWaiting (text : Text) (w : Waiting) : Type 0 where
  pub tokens : List Token
  pub read : tokens_of text ≡ Ok tokens
  pub runs : (code : List Instr) → Translates code false (bound_of tokens w.classes).items → w.done < length code
  pub kinds : HasKinds Pendent (forms_after w.done (bound_of tokens w.classes).items) (reverse w.operands)

abbrev pub IsWaitingIn : Text → Option Waiting → Type 0
IsWaitingIn text None = Unit {0}
IsWaitingIn text (Some w) = IsWaiting text w

-- A call's function is one that is defined, it stands at a line of it, and the names that have values are those of the header, in its order.
abbrev pub IsContext : ContextPart → Type 0
IsContext (Statement s) = IsWaiting s.text s.rest
IsContext (Call c) =
    (is_line c.definition c.at ≡ true) × IsWaitingIn (line_of c.definition c.at) c.rest × IsDefined c.definition
    × (map (λ local. local.0) c.locals ≡ names_in c.definition.header)
IsContext (Execute s) = IsWaiting s.text s.rest

-- the newest context and one beneath a statement are suspended, and one beneath a call or an execute awaits an answer
abbrev pub FitsWaiting : Place → Option Waiting → Type 0
FitsWaiting Beneath None = ⊥
FitsWaiting Beneath (Some w) = Unit {0}
FitsWaiting place None = Unit {0}
FitsWaiting place (Some w) = ⊥

abbrev pub waiting_in : ContextPart → Option Waiting
waiting_in (Statement s) = Some s.rest
waiting_in (Call c) = c.rest
waiting_in (Execute s) = Some s.rest

abbrev pub place_under : ContextPart → Place
place_under (Statement s) = Idle
place_under (Call c) = Beneath
place_under (Execute s) = Beneath

-- The contexts, newest first, stand above one another: beneath a call or an execute stands one that awaits its answer, beneath a statement a
-- suspended call or nothing.
abbrev pub AreStanding : Place → List ContextPart → Type 0
AreStanding Beneath [] = ⊥
AreStanding place [] = Unit {0}
AreStanding place (c ∷ cs) = FitsWaiting place (waiting_in c) × AreStanding (place_under c) cs

abbrev pub AreFew : Watched → Type 0
AreFew f = (length f.stops ≤ 999) × (length f.traces ≤ 999)

-- a function that is defined, with vectors of numbers of its lines, which ascend
pub record IsWatched (f : Watched) : Type 0 where
  pub defined : IsDefined f.definition
  pub stops : AreLines f.definition f.stops
  pub traces : AreLines f.definition f.traces

-- how many calls and executes stand
abbrev pub standing_in : List ContextPart → ℕ
standing_in [] = 0
standing_in (Statement s ∷ cs) = standing_in cs
standing_in (Call c ∷ cs) = suc (standing_in cs)
standing_in (Execute s ∷ cs) = suc (standing_in cs)

-- The index origin is 0 or 1, the functions are defined and their vectors some of theirs, and the contexts are some that an idle machine has, at most
-- 256 calls and executes among them.
pub record AreWhole (p : Pieces) : Type 0 where
  pub origin : p.origin ≤ 1
  pub few : All AreFew p.functions
  pub contexts : All IsContext p.contexts
  pub standing : AreStanding Newest (reverse p.contexts)
  pub watched : All IsWatched p.functions
  pub within : standing_in (reverse p.contexts) ≤ 256
