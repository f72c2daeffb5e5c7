-- The tree of a workspace file. An object has exactly the keys that stand here, ascending.
use Rattle.std.specs.Prelude.{ℕ, ℤ, List, map, codes, Option, Some, None}
use Rattle.serde_json.specs.Data.{Data, null, number, unsigned, string, array, object, member, no_members}
use Rattle.serde_json.specs.View.{items_of}
use Rattle.serde_json.specs.Find.{of_integer}
use Rattle.apl_workspace_file.specs.declared.fields.Version.{Version}
use Rattle.apl_workspace_file.specs.declared.fields.Version.TheVariants.{One, Two}
use Rattle.apl_workspace_file.specs.declared.fields.File.{File}
use Rattle.apl_workspace_file.specs.declared.fields.FunctionField.{FunctionField}
use Rattle.apl_workspace_file.specs.declared.fields.VariableField.{VariableField}
use Rattle.apl_workspace_file.specs.declared.fields.ArrayField.{ArrayField}
use Rattle.apl_workspace_file.specs.declared.fields.Elements.{Elements}
use Rattle.apl_workspace_file.specs.declared.fields.Elements.TheVariants.{Numbers, Text}
use Rattle.apl_workspace_file.specs.declared.fields.ContextField.{ContextField}
use Rattle.apl_workspace_file.specs.declared.fields.ContextField.TheVariants.{Statement, Call, Execute}
use Rattle.apl_workspace_file.specs.declared.fields.StatementField.{StatementField}
use Rattle.apl_workspace_file.specs.declared.fields.CallField.{CallField}
use Rattle.apl_workspace_file.specs.declared.fields.LocalField.{LocalField}
use Rattle.apl_workspace_file.specs.declared.fields.RestField.{RestField}
use Rattle.apl_workspace_file.specs.declared.fields.OperandField.{OperandField}
use Rattle.apl_workspace_file.specs.declared.fields.OperandField.TheVariants.{Array, Slots}

abbrev pub whole_tree : ℕ → Data
whole_tree n = number (unsigned n)

abbrev pub number_tree : ℤ → Data
number_tree z = number (of_integer z)

abbrev pub list_tree : {A : Type 0} → (A → Data) → List A → Data
list_tree f xs = array (items_of (map f xs))

-- null, where there is nothing
abbrev pub option_tree : {A : Type 0} → (A → Data) → Option A → Data
option_tree f None = null
option_tree f (Some x) = f x

abbrev pub elements_tree : List ℕ → Elements → Data
elements_tree shape (Numbers zs) = object (member (codes "nums") (list_tree number_tree zs) (member (codes "shape") (list_tree whole_tree shape) no_members))
elements_tree shape (Text s) = object (member (codes "shape") (list_tree whole_tree shape) (member (codes "text") (string s) no_members))

abbrev pub array_tree : ArrayField → Data
array_tree a = elements_tree a.shape a.elements

abbrev pub operand_tree : OperandField → Data
operand_tree (Array a) = array_tree a
operand_tree (Slots slots) = object (member (codes "slots") (list_tree (option_tree array_tree) slots) no_members)

abbrev pub rest_tree : RestField → Data
rest_tree r = object (member (codes "classes") (string r.classes) (member (codes "code") (string r.code) (member (codes "done") (whole_tree r.done)
    (member (codes "operands") (list_tree operand_tree r.operands) no_members))))

abbrev pub local_tree : LocalField → Data
local_tree l = object (member (codes "name") (string l.name) (member (codes "value") (option_tree array_tree l.value) no_members))

abbrev pub statement_tree : StatementField → Data
statement_tree s = object (member (codes "kind") (string (codes "statement")) (member (codes "line") (string s.line)
    (member (codes "rest") (rest_tree s.rest) no_members)))

abbrev pub execute_tree : StatementField → Data
execute_tree s = object (member (codes "kind") (string (codes "execute")) (member (codes "rest") (rest_tree s.rest)
    (member (codes "text") (string s.line) no_members)))

abbrev pub call_tree : CallField → Data
call_tree c = object (member (codes "at") (whole_tree c.at) (member (codes "header") (string c.header) (member (codes "kind") (string (codes "call"))
    (member (codes "lines") (list_tree string c.lines) (member (codes "locals") (list_tree local_tree c.locals)
    (member (codes "rest") (option_tree rest_tree c.rest) no_members))))))

abbrev pub context_tree : ContextField → Data
context_tree (Statement s) = statement_tree s
context_tree (Call c) = call_tree c
context_tree (Execute s) = execute_tree s

abbrev pub function_tree : FunctionField → Data
function_tree f = object (member (codes "header") (string f.header) (member (codes "lines") (list_tree string f.lines)
    (member (codes "stop") (list_tree whole_tree f.stop) (member (codes "trace") (list_tree whole_tree f.trace) no_members))))

abbrev pub variable_tree : VariableField → Data
variable_tree v = object (member (codes "name") (string v.name) (member (codes "value") (array_tree v.value) no_members))

abbrev pub version_tree : Version → Data
version_tree One = whole_tree 1
version_tree Two = whole_tree 2

-- the tree of a file
abbrev pub tree_of : File → Data
tree_of f = object (member (codes "contexts") (list_tree context_tree f.contexts) (member (codes "functions") (list_tree function_tree f.functions)
    (member (codes "io") (whole_tree f.origin) (member (codes "variables") (list_tree variable_tree f.variables)
    (member (codes "version") (version_tree f.version) no_members)))))
