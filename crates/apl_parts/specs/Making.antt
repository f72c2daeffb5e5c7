-- How a workspace is taken apart and put together, piece by piece.
use Rattle.std.specs.Prelude.{◌≡◌, ℕ, suc, ◌+◌, ◌<◌, false, List, [], ◌∷◌, length, map, reverse, Option, Some, None, Ok, option_map}
use Rattle.apl_arrays.specs.Cells.{Arr}
use Rattle.apl_tokens.specs.declared.token.Token.{Token}
use Rattle.apl_tokens.specs.Tokens.{tokens_of}
use Rattle.apl_code.specs.declared.instr.Instr.{Instr}
use Rattle.apl_translate.specs.Binding.{bound_of}
use Rattle.apl_translate.specs.Forms.{forms_after}
use Rattle.apl_translate.specs.Translation.{Translates}
use Rattle.apl_vectors.specs.Vectors.{Vectors, with_vector}
use Rattle.apl_defn.specs.Definitions.{Text}
use Rattle.apl_names.specs.declared.binding.Binding.{Binding}
use Rattle.apl_names.specs.Maps.{Map, first_map, with_entry}
use Rattle.apl_machine_state.specs.Environment as model
use Rattle.apl_machine_state.specs.State.{State, clear}
use Rattle.apl_frames.specs.declared.frame.Stage.TheVariants.{Pendent}
use Rattle.apl_frames.specs.Flat.{HasKinds, flat_rest}
use Rattle.apl_contexts.specs.declared.context.Context.{Context}
use Rattle.apl_contexts.specs.declared.context.Context.TheVariants.{Statement, Call, Execute}
use Rattle.apl_contexts.specs.Contexts.{AreStacked, Place, calls, dressed, under}
use Rattle.apl_parts.specs.declared.parts.ContextPart.{ContextPart}
use Rattle.apl_parts.specs.Pieces.{Waiting, Watched}
use Rattle.apl_parts.specs.Restored.{AreStanding, FitsWaiting, context_of, place_under, waiting_in}
use Rattle.apl_parts.specs.Taken.{function_in, variable_in}

-- ---- taking apart

-- the state of a machine with these names, vectors, index origin and contexts, which writes nothing and defines nothing
abbrev pub state_with : List Map → Vectors → Vectors → ℕ → List Context → State
state_with ms stops traces origin cs = record clear {
  world = record { traces = traces; globals = under ms cs; io = origin };
  stops = stops;
  contexts = dressed ms cs;
}

-- the function of that name with its vectors, where a binding is one
abbrev pub function_at : Vectors → Vectors → Text → Option Binding → List Watched
function_at stops traces name None = []
function_at stops traces name (Some b) = function_in stops traces (name, b)

-- the variable of that name, where a binding is one
abbrev pub variable_at : Text → Option Binding → List (Text × Arr)
variable_at name None = []
variable_at name (Some b) = variable_in (name, b)

-- one context of the definitions
abbrev pub dress : List Map → Context → model.Context
dress ms (Statement s) = model.Statement s.text (flat_rest s.line)
dress ms (Call c) = model.Call c.definition c.at (first_map ms) (option_map flat_rest c.rest)
dress ms (Execute s) = model.Execute s.text (flat_rest s.line)

-- the number of the scope for the contexts beneath this one
abbrev pub scope_beneath : ℕ → Context → ℕ
scope_beneath scope (Statement s) = scope
scope_beneath scope (Call c) = scope + 1
scope_beneath scope (Execute s) = scope

-- ---- putting together

-- these entries are put into a map, the last of them first
abbrev pub put_all : List (Text × Binding) → Map → Map
put_all [] m = m
put_all (e ∷ es) m = with_entry e.0 e.1 (put_all es m)

-- these vectors are put among others, the last of them first
abbrev pub vectors_onto : (Watched → List ℕ) → List Watched → Vectors → Vectors
vectors_onto which [] vectors = vectors
vectors_onto which (f ∷ fs) vectors = with_vector f.definition.header.name (which f) (vectors_onto which fs vectors)

-- Some phrase of the line of these tokens is not done, and the operands are of the kinds that it wants when the answer has come.
pub record Waits (tokens : List Token) (w : Waiting) : Type 0 where
  pub text : Text
  pub read : tokens_of text ≡ Ok tokens
  pub runs : (code : List Instr) → Translates code false (bound_of tokens w.classes).items → w.done < length code
  pub kinds : HasKinds Pendent (forms_after w.done (bound_of tokens w.classes).items) (reverse w.operands)

-- one more context stands on the others, which is that of a part
pub record HasAdded (part : ContextPart) (ms : List Map) (cs : List Context) (ns : List Map) (ds : List Context) : Type 0 where
  pub dressed : dressed ns ds ≡ context_of part ∷ dressed ms cs
  pub under : under ns ds ≡ under ms cs
  pub as_many : length ms ≡ suc (calls cs) → length ns ≡ suc (calls ds)
  pub stacked : (p : Place) → FitsWaiting p (waiting_in part) → AreStacked (place_under part) cs → AreStacked p ds

-- these contexts, newest first, and their maps stand for parts, newest first, over the global map
pub record Stand (parts : List ContextPart) (global : Map) (ms : List Map) (cs : List Context) : Type 0 where
  pub dressed : dressed ms cs ≡ map context_of parts
  pub under : under ms cs ≡ global
  pub as_many : length ms ≡ suc (calls cs)
  pub stacked : (p : Place) → AreStanding p parts → AreStacked p cs
