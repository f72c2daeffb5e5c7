-- The parts of a state.
use Rattle.std.specs.Prelude.{List, [], ◌∷◌, map, reverse, Option, option_map}
use Rattle.std.specs.List.{flat_map}
use Rattle.apl_arrays.specs.Cells.{Arr}
use Rattle.apl_symbols.specs.declared.class.Class.{Class}
use Rattle.apl_symbols.specs.declared.class.Class.TheVariants as classes
use Rattle.apl_code.specs.declared.row.Function.TheVariants as functions
use Rattle.apl_code.specs.declared.row.Variable.TheVariants as variables
use Rattle.apl_translate.specs.declared.form.Word.TheVariants as words
use Rattle.apl_translate.specs.declared.form.Form.{Form}
use Rattle.apl_translate.specs.declared.form.Form.TheVariants as forms
use Rattle.apl_translate.specs.declared.form.Placed.{Placed}
use Rattle.apl_vectors.specs.Vectors.{Vectors, vector_of}
use Rattle.apl_defn.specs.Definitions.{Text}
use Rattle.apl_names.specs.declared.binding.Binding.{Binding}
use Rattle.apl_names.specs.declared.binding.Binding.TheVariants.{Value, Function}
use Rattle.apl_names.specs.Maps.{Map, said, value_in}
use Rattle.apl_machine_state.specs.Items.{Rest, operand_stack}
use Rattle.apl_machine_state.specs.Environment as model
use Rattle.apl_machine_state.specs.State.{State}
use Rattle.apl_order.specs.Kept.{names_in}
use Rattle.apl_parts.specs.declared.parts.ContextPart.{ContextPart}
use Rattle.apl_parts.specs.declared.parts.ContextPart.TheVariants.{Statement, Call, Execute}
use Rattle.apl_parts.specs.Pieces.{Waiting, Watched}
use Rattle.apl_parts.specs.Workspaces.{Pieces}

-- the class with which an item was bound, where it is a user name
abbrev pub class_in : Form → List Class
class_in (forms.Word (words.Variable (variables.Name name))) = classes.Variable ∷ []
class_in (forms.Word (words.Niladic (variables.Name name))) = classes.Niladic ∷ []
class_in (forms.Word (words.Function (functions.Name name))) = classes.Function ∷ []
class_in form = []

-- the classes with which the user names of a line were bound, in the order of the text
abbrev pub classes_of : List Placed → List Class
classes_of items = flat_map (λ p. class_in p.form) items

-- what is kept of a line that awaits an answer
abbrev pub waiting_of : Rest → Waiting
waiting_of rest = record { classes = classes_of rest.bound.items; done = rest.done; operands = operand_stack rest.items }

-- what these names have for values in a map
abbrev pub values_in : Map → List Text → List (Text × Option Arr)
values_in m names = map (λ name. (name, value_in (said m name))) names

-- a context in parts
abbrev pub part_of : model.Context → ContextPart
part_of (model.Statement text rest) = Statement (record { text = text; rest = waiting_of rest })
part_of (model.Call d at locals rest) =
    Call (record { definition = d; at = at; locals = values_in locals (names_in d.header); rest = option_map waiting_of rest })
part_of (model.Execute text rest) = Execute (record { text = text; rest = waiting_of rest })

-- the function that a binding is, with its vectors
abbrev pub function_in : Vectors → Vectors → Text × Binding → List Watched
function_in stops traces (name, Function d) = record { definition = d; stops = vector_of name stops; traces = vector_of name traces } ∷ []
function_in stops traces entry = []

-- the variable that a binding is
abbrev pub variable_in : Text × Binding → List (Text × Arr)
variable_in (name, Value a) = (name, a) ∷ []
variable_in entry = []

-- the parts of a state: those of its global map, its vectors, its index origin and its contexts
abbrev pub parts_of : State → Pieces
parts_of s = record {
  functions = flat_map (function_in s.stops s.world.traces) s.world.globals;
  variables = flat_map variable_in s.world.globals;
  origin = s.world.io;
  contexts = reverse (map part_of s.contexts);
}
