-- Contexts, and the environment that they and the workspace make.
use Rattle.std.specs.Prelude.{ℕ, zero, suc, ℤ, pos, List, [], ◌∷◌, drop, Bool, true, false, Option, Some, None}
use Rattle.apl_arrays.specs.Cells.{Arr, Items, Numbers}
use Rattle.apl_arrays.specs.Simple.{single}
use Rattle.apl_arrays.specs.declared.cell.Cell.TheVariants.{Num}
use Rattle.apl_symbols.specs.declared.class.Class.{Class}
use Rattle.apl_names.specs.declared.binding.Binding.{Binding}
use Rattle.apl_names.specs.declared.binding.Binding.TheVariants.{Value}
use Rattle.apl_names.specs.Maps.{Map, found, class_in, first_map}
use Rattle.apl_defn.specs.Definitions.{Text, Definition}
use Rattle.apl_vectors.specs.Vectors.{Vectors}
use Rattle.apl_machine_state.specs.Items.{Rest}

-- An immediate statement; a call of a function at one of its lines, with the map of its names; or a text that is executed, whose value the context
-- below awaits. A call without a rest is suspended before its line.
pub data Context : Type 0 where
  Statement : (text : Text) (rest : Rest) → Context
  Call : (definition : Definition) (at : ℕ) (locals : Map) (rest : Option Rest) → Context
  Execute : (text : Text) (rest : Rest) → Context

-- what a line sees beside the contexts: the trace vectors of the global functions, the global map of names, the global index origin
pub record World : Type 0 where
  pub traces : Vectors
  pub globals : Map
  pub io : ℕ

-- the environment: the maps of the standing calls, newest first, and the global map
abbrev pub environment : World → List Context → List Map
environment w [] = w.globals ∷ []
environment w (Statement text rest ∷ below) = environment w below
environment w (Call d at locals rest ∷ below) = locals ∷ environment w below
environment w (Execute text rest ∷ below) = environment w below

-- the contexts with these maps for their calls
abbrev pub with_maps : List Map → List Context → List Context
with_maps ms [] = []
with_maps ms (Statement text rest ∷ below) = Statement text rest ∷ with_maps ms below
with_maps ms (Call d at locals rest ∷ below) = Call d at (first_map ms) rest ∷ with_maps (drop 1 ms) below
with_maps ms (Execute text rest ∷ below) = Execute text rest ∷ with_maps ms below

-- the map that the contexts leave over: the global one
abbrev pub left_over : List Map → List Context → Map
left_over ms [] = first_map ms
left_over ms (Statement text rest ∷ below) = left_over ms below
left_over ms (Call d at locals rest ∷ below) = left_over (drop 1 ms) below
left_over ms (Execute text rest ∷ below) = left_over ms below

-- the class of a name, as the newest map that has it says
abbrev pub class_of : World → List Context → Text → Class
class_of w contexts name = class_in (found (environment w contexts) name)

-- the line numbers of the standing calls, newest first
abbrev pub line_numbers : List Context → List ℤ
line_numbers [] = []
line_numbers (Statement text rest ∷ below) = line_numbers below
line_numbers (Call d at locals rest ∷ below) = pos at ∷ line_numbers below
line_numbers (Execute text rest ∷ below) = line_numbers below

-- how many calls and executes stand
abbrev pub standing : List Context → ℕ
standing [] = 0
standing (Statement text rest ∷ below) = standing below
standing (Call d at locals rest ∷ below) = suc (standing below)
standing (Execute text rest ∷ below) = suc (standing below)

-- what a phrase sees beside its operands: the environment, the global index origin, the line numbers of the standing calls, and how many calls and
-- executes stand
pub record Scene : Type 0 where
  pub maps : List Map
  pub io : ℕ
  pub lines : List ℤ
  pub standing : ℕ

abbrev pub scene : World → List Context → Scene
scene w contexts = record { maps = environment w contexts; io = w.io; lines = line_numbers contexts; standing = standing contexts }

-- a whole number as an array
abbrev pub scalar : ℕ → Arr
scalar n = single (Num (pos n))

-- ⎕IO, as the maps of calls know it
abbrev pub origin_name : Text
origin_name = 0x2395 ∷ 73 ∷ 79 ∷ []

-- the origin that an array stands for, which holds 0 or 1
abbrev pub origin_in : Items → ℕ
origin_in (Numbers (pos zero ∷ ns)) = 0
origin_in items = 1

-- the newest map that has ⎕IO says what it is, and else the workspace
abbrev pub origin_by : Option Binding → ℕ → ℕ
origin_by (Some (Value a)) io = origin_in a.items
origin_by binding io = io

abbrev pub index_origin : Scene → ℕ
index_origin s = origin_by (found s.maps origin_name) s.io

abbrev pub rest_of : Context → Option Rest
rest_of (Statement text rest) = Some rest
rest_of (Call d at locals rest) = rest
rest_of (Execute text rest) = Some rest

-- what the k-th newest context still has to do, from 0; a suspended call has nothing
abbrev pub rest_at : List Context → ℕ → Option Rest
rest_at [] k = None
rest_at (context ∷ below) zero = rest_of context
rest_at (context ∷ below) (suc k) = rest_at below k

abbrev pub with_rest : Rest → Context → Context
with_rest rest (Statement text old) = Statement text rest
with_rest rest (Call d at locals old) = Call d at locals (Some rest)
with_rest rest (Execute text old) = Execute text rest

abbrev pub is_suspended : Option Rest → Bool
is_suspended None = true
is_suspended (Some rest) = false

-- nothing stands, or the newest context is a suspended call
abbrev pub is_idle_in : List Context → Bool
is_idle_in [] = true
is_idle_in (context ∷ below) = is_suspended (rest_of context)

-- the contexts behind the nearest immediate statement
abbrev pub behind_statement : List Context → List Context
behind_statement [] = []
behind_statement (Statement text rest ∷ below) = below
behind_statement (Call d at locals rest ∷ below) = behind_statement below
behind_statement (Execute text rest ∷ below) = behind_statement below

-- the contexts from the nearest statement or call on, without the executes above it
abbrev pub nearest : List Context → List Context
nearest [] = []
nearest (Statement text rest ∷ below) = Statement text rest ∷ below
nearest (Call d at locals rest ∷ below) = Call d at locals rest ∷ below
nearest (Execute text rest ∷ below) = nearest below
