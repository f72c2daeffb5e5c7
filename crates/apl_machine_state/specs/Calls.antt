-- Calls: the map that one begins with, how its lines begin, and what its return makes of the contexts below.
use Rattle.std.specs.Prelude.{ℕ, List, [], ◌∷◌, ◌++◌, map, Option, Some, None, Result, Ok, Err, if◌then◌else◌}
use Rattle.std.specs.Str.{bytes_eq}
use Rattle.apl_arrays.specs.Cells.{Arr}
use Rattle.apl_faults.specs.declared.fault.Fault.TheVariants.{Value as ValueFault}
use Rattle.apl_tokens.specs.declared.token.Token.{Token}
use Rattle.apl_tokens.specs.declared.line.TokenError.{TokenError}
use Rattle.apl_tokens.specs.Tokens.{tokens_of}
use Rattle.apl_translate.specs.Binding.{bound_of, names_of}
use Rattle.apl_names.specs.declared.binding.Binding.{Binding}
use Rattle.apl_names.specs.declared.binding.Binding.TheVariants.{Unset, Label, Value}
use Rattle.apl_names.specs.Maps.{Map, map_of, said, value_in}
use Rattle.apl_defn.specs.Definitions.{Text, Definition, line_of}
use Rattle.apl_machine_state.specs.Items.{Item, Rest, fresh, answered}
use Rattle.apl_machine_state.specs.Environment.{World, Context, Call, Scene, scalar, class_of, origin_name, index_origin, rest_of, with_rest}
use Rattle.apl_machine_state.specs.declared.output.OutLine.{OutLine}
use Rattle.apl_machine_state.specs.Reports.{fault_lines, abandoned}

-- an argument's name stands for its value, or for none
abbrev pub bound_to : Option Arr → Binding
bound_to None = Unset
bound_to (Some a) = Value a

abbrev pub bound_name : Option Text → Binding → List (Text × Binding)
bound_name None binding = []
bound_name (Some name) binding = (name, binding) ∷ []

-- a local has no value yet, but a local ⎕IO that of the caller
abbrev pub local_of : Scene → Text → Text × Binding
local_of s name = (name, if bytes_eq origin_name name then Value (scalar (index_origin s)) else Unset)

-- a label is the number of its line
abbrev pub label_of : Text × ℕ → Text × Binding
label_of label = (label.0, Label label.1)

-- what the names of a call stand for as it begins: the result, the arguments, the locals, the labels
abbrev pub names_of_call : Scene → Definition → Option Arr → Option Arr → List (Text × Binding)
names_of_call s d a b =
    bound_name d.header.result Unset ++ (bound_name d.header.left (bound_to a) ++ (bound_name d.header.right (bound_to b)
    ++ (map (local_of s) d.header.locals ++ map label_of d.labels)))

-- the map of a call
abbrev pub call_map : Scene → Definition → Option Arr → Option Arr → Map
call_map s d a b = map_of (names_of_call s d a b)

-- a line of these tokens begins, with the classes that its names have in these contexts
abbrev pub line_begun : World → List Context → List Token → Rest
line_begun w contexts tokens = fresh (bound_of tokens (map (class_of w contexts) (names_of tokens)))

abbrev pub begun_of : World → List Context → Result (List Token) TokenError → Option Rest
begun_of w contexts (Ok tokens) = Some (line_begun w contexts tokens)
begun_of w contexts (Err error) = None

-- the contexts when a call over these has begun its line n
abbrev pub begun_line : World → Definition → ℕ → Map → List Context → List Context
begun_line w d n locals below = Call d n locals (begun_of w (Call d n locals None ∷ below) (tokens_of (line_of d n))) ∷ below

-- contexts to which an answer has come, and what is then written
pub record Answered : Type 0 where
  pub contexts : List Context
  pub lines : List OutLine

-- without a value where one is wanted it is VALUE ERROR at the call
abbrev pub answered_by : Context → List Context → Rest → Result (List Item) ℕ → Answered
answered_by context below rest (Ok items) = record { contexts = with_rest (record rest { items = items }) context ∷ below; lines = [] }
answered_by context below rest (Err at) = record { contexts = abandoned (context ∷ below); lines = fault_lines ValueFault at (context ∷ below) }

abbrev pub answered_in : Option Arr → Context → List Context → Option Rest → Answered
answered_in answer context below None = record { contexts = context ∷ below; lines = [] }
answered_in answer context below (Some rest) = answered_by context below rest (answered answer rest.items)

-- an answer comes to the newest context, or a return without a value
abbrev pub given_to : List Context → Option Arr → Answered
given_to [] answer = record { contexts = []; lines = [] }
given_to (context ∷ below) answer = answered_in answer context below (rest_of context)

-- what a call answers: the value of its result's name
abbrev pub result_of : Option Text → Map → Option Arr
result_of None locals = None
result_of (Some name) locals = value_in (said locals name)

-- a call over these contexts returns
abbrev pub returned : Definition → Map → List Context → Answered
returned d locals below = given_to below (result_of d.header.result locals)
