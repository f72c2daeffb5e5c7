-- The tree of a file has no float, and nests little.
use Rattle.std.proofs.Common.{◌≡◌, ℕ, suc, ◌≤◌, ℤ, pos, negsuc, List, [], ◌∷◌, map, false, Option, Some, None, Result, Ok, Err, refl, ap, ◌∙◌, arith}
use Rattle.std.specs.Prelude.{IfOk, IsUtf8}
use Rattle.std.specs.declared.alloc.AllocError.{AllocError}
use Rattle.std.specs.Global.{Vec}
use Rattle.serde_json.specs.Data.{Data, string, depth, items_depth}
use Rattle.serde_json.specs.View.{items_of}
use Rattle.serde_json.specs.Read.{read, max_depth}
use Rattle.serde_json.specs.Written.{has_float, items_have_float, compact_text}
use Rattle.apl_workspace_file.specs.Json.{IsJson}
use Rattle.apl_workspace_file.specs.Trees.{whole_tree, number_tree, list_tree, option_tree, elements_tree, array_tree, operand_tree, rest_tree, local_tree, context_tree, function_tree, variable_tree, version_tree, tree_of}
use Rattle.apl_workspace_file.specs.declared.fields.Version.{Version}
use Rattle.apl_workspace_file.specs.declared.fields.Version.TheVariants.{One, Two}
use Rattle.apl_workspace_file.specs.declared.fields.File.{File}
use Rattle.apl_workspace_file.specs.declared.fields.FunctionField.{FunctionField}
use Rattle.apl_workspace_file.specs.declared.fields.VariableField.{VariableField}
use Rattle.apl_workspace_file.specs.declared.fields.ArrayField.{ArrayField}
use Rattle.apl_workspace_file.specs.declared.fields.Elements.{Elements}
use Rattle.apl_workspace_file.specs.declared.fields.Elements.TheVariants.{Numbers, Text}
use Rattle.apl_workspace_file.specs.declared.fields.ContextField.{ContextField}
use Rattle.apl_workspace_file.specs.declared.fields.ContextField.TheVariants.{Statement, Call, Execute}
use Rattle.apl_workspace_file.specs.declared.fields.LocalField.{LocalField}
use Rattle.apl_workspace_file.specs.declared.fields.RestField.{RestField}
use Rattle.apl_workspace_file.specs.declared.fields.OperandField.{OperandField}
use Rattle.apl_workspace_file.specs.declared.fields.OperandField.TheVariants.{Array, Slots}

-- It has no float, and nests at most n deep.
pub record IsShallow (n : ℕ) (d : Data) : Type 0 where
  pub exact : has_float d ≡ false
  pub nests : depth d ≤ n

floats_in_list : {A : Type 0} (f : A → Data) (n : ℕ) → ((x : A) → IsShallow n (f x)) → (xs : List A) → items_have_float (items_of (map f xs)) ≡ false
floats_in_list f n each [] = refl
floats_in_list f n each (x ∷ xs) = rw ((each x).exact) (floats_in_list f n each xs)

list_depth : {A : Type 0} (f : A → Data) (n : ℕ) → ((x : A) → IsShallow n (f x)) → (xs : List A) → items_depth (items_of (map f xs)) ≤ n
list_depth f n each [] = omega arith
list_depth f n each (x ∷ xs) = omega (arith, (each x).nests, list_depth f n each xs)

list_shallow : {A : Type 0} (f : A → Data) (n : ℕ) → ((x : A) → IsShallow n (f x)) → (xs : List A) → IsShallow (suc n) (list_tree f xs)
list_shallow f n each xs = record { exact = floats_in_list f n each xs; nests = omega (arith, list_depth f n each xs) }

option_shallow : {A : Type 0} (f : A → Data) (n : ℕ) → ((x : A) → IsShallow n (f x)) → (o : Option A) → IsShallow n (option_tree f o)
option_shallow f n each None = record { exact = refl; nests = omega arith }
option_shallow f n each (Some x) = each x

number_shallow : (z : ℤ) → IsShallow 0 (number_tree z)
number_shallow (pos n) = record { exact = refl; nests = omega arith }
number_shallow (negsuc n) = record { exact = refl; nests = omega arith }

whole_shallow : (n : ℕ) → IsShallow 0 (whole_tree n)
whole_shallow n = record { exact = refl; nests = omega arith }

string_shallow : (s : List ℕ) → IsShallow 0 (string s)
string_shallow s = record { exact = refl; nests = omega arith }

wholes_shallow : (ns : List ℕ) → IsShallow 1 (list_tree whole_tree ns)
wholes_shallow ns = list_shallow whole_tree 0 whole_shallow ns

texts_shallow : (ss : List (List ℕ)) → IsShallow 1 (list_tree string ss)
texts_shallow ss = list_shallow string 0 string_shallow ss

array_shallow_at : (shape : List ℕ) (e : Elements) → IsShallow 2 (elements_tree shape e)
array_shallow_at shape (Numbers zs) =
    let numbers = list_shallow number_tree 0 number_shallow zs in
    let axes = wholes_shallow shape in
    record { exact = rw (numbers.exact, axes.exact) refl; nests = omega (arith, numbers.nests, axes.nests) }
array_shallow_at shape (Text s) = let axes = wholes_shallow shape in record { exact = rw (axes.exact) refl; nests = omega (arith, axes.nests) }

array_shallow : (a : ArrayField) → IsShallow 2 (array_tree a)
array_shallow a = array_shallow_at a.shape a.elements

operand_shallow : (o : OperandField) → IsShallow 4 (operand_tree o)
operand_shallow (Array a) = let it = array_shallow a in record { exact = it.exact; nests = omega (arith, it.nests) }
operand_shallow (Slots slots) =
    let it = list_shallow (option_tree array_tree) 2 (option_shallow array_tree 2 array_shallow) slots in
    record { exact = rw (it.exact) refl; nests = omega (arith, it.nests) }

rest_shallow : (r : RestField) → IsShallow 6 (rest_tree r)
rest_shallow r = let it = list_shallow operand_tree 4 operand_shallow r.operands in record { exact = rw (it.exact) refl; nests = omega (arith, it.nests) }

local_shallow : (l : LocalField) → IsShallow 3 (local_tree l)
local_shallow l = let it = option_shallow array_tree 2 array_shallow l.value in record { exact = rw (it.exact) refl; nests = omega (arith, it.nests) }

context_shallow : (c : ContextField) → IsShallow 7 (context_tree c)
context_shallow (Statement s) = let it = rest_shallow s.rest in record { exact = rw (it.exact) refl; nests = omega (arith, it.nests) }
context_shallow (Execute s) = let it = rest_shallow s.rest in record { exact = rw (it.exact) refl; nests = omega (arith, it.nests) }
context_shallow (Call c) =
    let lines = texts_shallow c.lines in
    let locals = list_shallow local_tree 3 local_shallow c.locals in
    let rest = option_shallow rest_tree 6 rest_shallow c.rest in
    record { exact = rw (lines.exact, locals.exact, rest.exact) refl; nests = omega (arith, lines.nests, locals.nests, rest.nests) }

function_shallow : (f : FunctionField) → IsShallow 2 (function_tree f)
function_shallow f =
    let lines = texts_shallow f.lines in
    let stop = wholes_shallow f.stop in
    let trace = wholes_shallow f.trace in
    record { exact = rw (lines.exact, stop.exact, trace.exact) refl; nests = omega (arith, lines.nests, stop.nests, trace.nests) }

variable_shallow : (v : VariableField) → IsShallow 3 (variable_tree v)
variable_shallow v = let it = array_shallow v.value in record { exact = rw (it.exact) refl; nests = omega (arith, it.nests) }

version_shallow : (v : Version) → IsShallow 0 (version_tree v)
version_shallow One = whole_shallow 1
version_shallow Two = whole_shallow 2

pub file_shallow : (f : File) → IsShallow 9 (tree_of f)
file_shallow f =
    let contexts = list_shallow context_tree 7 context_shallow f.contexts in
    let functions = list_shallow function_tree 2 function_shallow f.functions in
    let variables = list_shallow variable_tree 3 variable_shallow f.variables in
    let version = version_shallow f.version in
    record {
      exact = rw (contexts.exact, functions.exact, variables.exact, version.exact) refl;
      nests = omega (arith, contexts.nests, functions.nests, variables.nests, version.nests);
    }

abbrev some : Data → Option Data
some d = Some d

pub is_text : (d : Data) (f : File) (r : Result (Vec ℕ) AllocError) → d ≡ tree_of f → IfOk r (λ b. has_float d ≡ false → b.items ≡ compact_text d) → IfOk r (λ b. b.items ≡ compact_text (tree_of f))
is_text d f (Ok b) is h = h (ap has_float is ∙ (file_shallow f).exact) ∙ ap compact_text is
is_text d f (Err e) is h = tt

pub is_json : (d : Data) (f : File) (r : Result (Vec ℕ) AllocError) → d ≡ tree_of f → IfOk r (λ b. IsUtf8 b.items) → IfOk r (λ b. depth d ≤ max_depth → read b.items ≡ Some d)
    → IfOk r (λ b. IsJson b.items (tree_of f))
is_json d f (Ok b) is utf8 h =
    let nests : depth d ≤ max_depth = rw is (omega (arith, (file_shallow f).nests)) in
    (utf8, h nests ∙ ap some is)
is_json d f (Err e) is utf8 h = tt
