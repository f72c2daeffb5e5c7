-- What a state keeps beside the order of its contexts: how many stand, what their lines and maps are, its global objects and their vectors.
use Rattle.std.specs.Prelude.{◌≡◌, ℕ, ◌<◌, ◌≤◌, List, [], ◌∷◌, ◌++◌, length, map, true, Option, Some, None, Ok}
use Rattle.std.specs.declared.cmp.Ordering.TheVariants.{Less}
use Rattle.std.specs.Map.{lookup}
use Rattle.std.specs.Str.{bytes_eq}
use Rattle.apl_symbols.specs.declared.class.Class.{Class}
use Rattle.apl_tokens.specs.declared.token.Token.{Token}
use Rattle.apl_tokens.specs.Tokens.{tokens_of}
use Rattle.apl_translate.specs.Binding.{bound_of}
use Rattle.apl_defn.specs.Definitions.{Text, Header, Definition, line_of}
use Rattle.apl_defn.specs.Defining.{IsDefined}
use Rattle.apl_names.specs.declared.binding.Binding.{Binding}
use Rattle.apl_names.specs.declared.binding.Binding.TheVariants.{Value, Function}
use Rattle.apl_names.specs.Maps.{IsMap, Map, function_in, map_of, name_cmp, said, value_in}
use Rattle.apl_vectors.specs.Vectors.{Vectors}
use Rattle.apl_machine_state.specs.Items.{Rest}
use Rattle.apl_machine_state.specs.Environment.{World, Context, Statement, Call, Execute, standing}
use Rattle.apl_machine_state.specs.Calls.{bound_to, label_of}
use Rattle.apl_machine_state.specs.Objects.{without_global}
use Rattle.apl_machine_state.specs.State.{State, clear, interrupt, is_idle, step, with_function}
use Rattle.apl_machine_state.specs.Beginning.{begun}
use Rattle.apl_order.specs.Order.{AreInOrder}

-- ---- lines and maps

-- a line is that of a text, bound under some classes of its names
pub record IsOfText (text : Text) (rest : Rest) : Type 0 where
  pub tokens : List Token
  pub read : tokens_of text ≡ Ok tokens
  pub classes : List Class
  pub bound : rest.bound ≡ bound_of tokens classes

abbrev pub IsOfLine : Text → Option Rest → Type 0
IsOfLine text None = Unit {0}
IsOfLine text (Some rest) = IsOfText text rest

abbrev pub given_name : Option Text → List Text
given_name None = []
given_name (Some name) = name ∷ []

-- the names of a header that have values: the result, the arguments, the locals
abbrev pub names_in : Header → List Text
names_in h = given_name h.result ++ (given_name h.left ++ (given_name h.right ++ h.locals))

-- the names of a call by its map: those of its header with their values or without one, and its labels, each the number of its line
abbrev pub names_by : Map → Definition → List (Text × Binding)
names_by m d = map (λ name. (name, bound_to (value_in (said m name)))) (names_in d.header) ++ map label_of d.labels

-- the map has just the names of the header and the labels
abbrev pub IsCallMap : Definition → Map → Type 0
IsCallMap d m = map_of (names_by m d) ≡ m

abbrev pub IsKeptContext : Context → Type 0
IsKeptContext (Statement text rest) = IsOfText text rest
IsKeptContext (Call d n locals rest) = IsDefined d × IsCallMap d locals × IsOfLine (line_of d n) rest
IsKeptContext (Execute text rest) = IsOfText text rest

abbrev pub AreKept : List Context → Type 0
AreKept [] = Unit {0}
AreKept (context ∷ below) = IsKeptContext context × AreKept below

-- ---- global objects

-- a name stands globally for nothing, a variable, or a function of its own
abbrev pub IsObject : Text → Option Binding → Type 0
IsObject name None = Unit {0}
IsObject name (Some (Value array)) = Unit {0}
IsObject name (Some (Function d)) = (d.header.name ≡ name) × IsDefined d
IsObject name (Some binding) = ⊥

pub record AreGlobals (globals : Map) : Type 0 where
  pub ascend : IsMap globals
  pub objects : (name : Text) → IsObject name (said globals name)

-- these numbers ascend from above one
abbrev pub Ascend : ℕ → List ℕ → Type 0
Ascend above [] = Unit {0}
Ascend above (n ∷ ns) = (above < n) × Ascend n ns

abbrev pub AreAtMost : ℕ → List ℕ → Type 0
AreAtMost most [] = Unit {0}
AreAtMost most (n ∷ ns) = (n ≤ most) × AreAtMost most ns

-- numbers of lines of a function, ascending
abbrev pub AreLines : Definition → List ℕ → Type 0
AreLines d lines = Ascend 0 lines × AreAtMost (length d.lines) lines

-- the stop or trace vector of a name, if it has one: only a global function has, and one that is empty isn't listed
abbrev pub IsVectorOf : Option Definition → Option (List ℕ) → Type 0
IsVectorOf function None = Unit {0}
IsVectorOf None (Some lines) = ⊥
IsVectorOf (Some d) (Some []) = ⊥
IsVectorOf (Some d) (Some (n ∷ ns)) = AreLines d (n ∷ ns)

-- the names ascend from above n
abbrev pub IsAbove : Text → Vectors → Type 0
IsAbove n [] = Unit {0}
IsAbove n (e ∷ es) = (name_cmp n e.0 ≡ Less) × IsAbove e.0 es

abbrev pub AreAscending : Vectors → Type 0
AreAscending [] = Unit {0}
AreAscending (e ∷ es) = IsAbove e.0 es

pub record AreVectors (globals : Map) (vectors : Vectors) : Type 0 where
  pub ascend : AreAscending vectors
  pub lines : (name : Text) → IsVectorOf (function_in (said globals name)) (lookup (bytes_eq name) vectors)

-- ---- states

-- what is kept of a world, the stop vectors and the contexts
pub record Keeps (w : World) (stops : Vectors) (contexts : List Context) : Type 0 where
  pub few : standing contexts ≤ 256
  pub kept : AreKept contexts
  pub globals : AreGlobals w.globals
  pub traced : AreVectors w.globals w.traces
  pub stopped : AreVectors w.globals stops

-- a state that a machine can have
pub record IsKept (s : State) : Type 0 where
  pub order : AreInOrder s.contexts
  pub keeps : Keeps s.world s.stops s.contexts

abbrev pub ClearIsKept : Type 0
ClearIsKept = IsKept clear

abbrev pub StepsKeep : Type 0
StepsKeep = (s : State) → IsKept s → IsKept (step s)

abbrev pub InterruptsKeep : Type 0
InterruptsKeep = (s : State) → IsKept s → IsKept (interrupt s)

abbrev pub StatementsKeep : Type 0
StatementsKeep = (s : State) (text : Text) → is_idle s ≡ true → IsKept s → IsKept (begun s text)

abbrev pub DefinitionsKeep : Type 0
DefinitionsKeep = (s : State) (d : Definition) → IsDefined d → IsKept s → IsKept (with_function d s)

abbrev pub ErasuresKeep : Type 0
ErasuresKeep = (s : State) (name : Text) → IsKept s → IsKept (without_global name s)
