-- For private clauses: a tree read step by step. Which trees are files `Trees` says; the public clauses speak of that alone.
use Rattle.std.specs.Prelude.{◌≡◌, ℕ, ℤ, pos, negsuc, ◌^◌, ◌==◌, ◌&&◌, List, [], ◌∷◌, codes, Bool, true, false, nat_lt, bytes_eq, if◌then◌else◌, Option, Some, None, option_and_then, Result, Ok, Err, ⊤}
use Rattle.serde_json.specs.Data.{Num, unsigned, negative, float, Data, null, boolean, number, string, array, object, Items, no_items, item, Members, member, no_members}
use Rattle.serde_json.specs.Find.{get, as_number, as_str, as_array, as_object, as_u64}
use Rattle.apl_workspace_file.specs.Fitting.{fits_version}
use Rattle.apl_workspace_file.specs.declared.error.TreeError.{TreeError}
use Rattle.apl_workspace_file.specs.declared.error.TreeError.TheVariants.{Form, Memory}
use Rattle.apl_workspace_file.specs.declared.fields.Version.{Version}
use Rattle.apl_workspace_file.specs.declared.fields.Version.TheVariants.{One, Two}
use Rattle.apl_workspace_file.specs.declared.fields.File.{File}
use Rattle.apl_workspace_file.specs.declared.fields.FunctionField.{FunctionField}
use Rattle.apl_workspace_file.specs.declared.fields.VariableField.{VariableField}
use Rattle.apl_workspace_file.specs.declared.fields.ArrayField.{ArrayField}
use Rattle.apl_workspace_file.specs.declared.fields.Elements.TheVariants.{Numbers, Text}
use Rattle.apl_workspace_file.specs.declared.fields.ContextField.{ContextField}
use Rattle.apl_workspace_file.specs.declared.fields.ContextField.TheVariants.{Statement, Call, Execute}
use Rattle.apl_workspace_file.specs.declared.fields.StatementField.{StatementField}
use Rattle.apl_workspace_file.specs.declared.fields.CallField.{CallField}
use Rattle.apl_workspace_file.specs.declared.fields.LocalField.{LocalField}
use Rattle.apl_workspace_file.specs.declared.fields.RestField.{RestField}
use Rattle.apl_workspace_file.specs.declared.fields.OperandField.{OperandField}
use Rattle.apl_workspace_file.specs.declared.fields.OperandField.TheVariants.{Array, Slots}

infixl 10 ◌>>=◌
abbrev pub ◌>>=◌ : {A B : Type 0} → Result A TreeError → (A → Result B TreeError) → Result B TreeError
(Ok x) >>= f = f x
(Err e) >>= f = Err e

-- A call answered what reading gives, unless memory ran out.
abbrev pub Gives : {A : Type 0} → Result A TreeError → Result A TreeError → Type 0
Gives (Ok x) read = read ≡ Ok x
Gives (Err e) read = ¬ (e ≡ Memory) → read ≡ Err e

abbrev pub form_of : {A : Type 0} → Option A → Result A TreeError
form_of None = Err Form
form_of (Some x) = Ok x

-- ---- the members of an object

-- f reads the members of an object
abbrev pub object_of : {A : Type 0} → (Members → Result A TreeError) → Data → Result A TreeError
object_of f d = form_of (as_object d) >>= f

-- the member that comes first, where it has this key, and those after it
abbrev pub field : List ℕ → Members → Result (Data × Members) TreeError
field k no_members = Err Form
field k (member l d ms) = if bytes_eq l k then Ok (d, ms) else Err Form

-- no member is left
abbrev pub ended : Members → Result ⊤ TreeError
ended no_members = Ok tt
ended (member l d ms) = Err Form

-- the value that f reads in the member that comes first, where it has this key, and the members after it
unfoldable pub next : {A : Type 0} → List ℕ → (Data → Result A TreeError) → Members → Result (A × Members) TreeError
next k f ms = do
  x ← field k ms
  a ← f x.0
  Ok (a, x.1)

-- A call answered what is read next and left the members after it, unless memory ran out.
abbrev pub GivesNext : {A : Type 0} → Result A TreeError → Members → Result (A × Members) TreeError → Type 0
GivesNext (Ok x) left read = read ≡ Ok (x, left)
GivesNext (Err e) left read = ¬ (e ≡ Memory) → read ≡ Err e

-- f reads the member of this key, which comes first; rest reads those after it
abbrev pub with_field : {A R : Type 0} → List ℕ → (Data → Result A TreeError) → (Members → Result R TreeError) → Members → Result (A × R) TreeError
with_field k f rest ms = do
  a ← next k f ms
  r ← rest a.1
  Ok (a.0, r)

abbrev pub is_there : {A : Type 0} → Option A → Bool
is_there None = false
is_there (Some x) = true

-- an object has a member of this key
abbrev pub has : List ℕ → Data → Bool
has k d = is_there (get k d)

-- the kind that a context says it is
abbrev pub kind_of : Data → Option (List ℕ)
kind_of d = option_and_then as_str (get (codes "kind") d)

-- ---- numbers, texts, lists

unfoldable pub whole_of : Data → Result ℕ TreeError
whole_of d = do
  n ← form_of (as_number d)
  u ← form_of (as_u64 n)
  if nat_lt u (2 ^ 63) then Ok u else Err Form

abbrev pub number_from : Num → Result ℤ TreeError
number_from (unsigned n) = if nat_lt n (2 ^ 63) then Ok (pos n) else Err Form
number_from (negative (pos n)) = Err Form
number_from (negative (negsuc n)) = if nat_lt n (2 ^ 63) then Ok (negsuc n) else Err Form
number_from (float x) = Err Form

unfoldable pub number_of : Data → Result ℤ TreeError
number_of d = form_of (as_number d) >>= number_from

abbrev pub text_of : Data → Result (List ℕ) TreeError
text_of d = form_of (as_str d)

-- this very text
unfoldable pub word_of : List ℕ → Data → Result ⊤ TreeError
word_of word d = text_of d >>= λ s. if bytes_eq s word then Ok tt else Err Form

abbrev pub read_items : {A : Type 0} → (Data → Result A TreeError) → Items → Result (List A) TreeError
read_items f no_items = Ok []
read_items f (item d ds) = f d >>= λ x. read_items f ds >>= λ xs. Ok (x ∷ xs)

unfoldable pub list_of : {A : Type 0} → (Data → Result A TreeError) → Data → Result (List A) TreeError
list_of f d = form_of (as_array d) >>= read_items f

abbrev pub option_by : {A : Type 0} → Data → Result A TreeError → Result (Option A) TreeError
option_by null read = Ok None
option_by (boolean b) read = read >>= λ x. Ok (Some x)
option_by (number n) read = read >>= λ x. Ok (Some x)
option_by (string s) read = read >>= λ x. Ok (Some x)
option_by (array ds) read = read >>= λ x. Ok (Some x)
option_by (object ms) read = read >>= λ x. Ok (Some x)

-- null, or what f reads
unfoldable pub option_of : {A : Type 0} → (Data → Result A TreeError) → Data → Result (Option A) TreeError
option_of f d = option_by d (f d)

-- ---- arrays and operands

unfoldable pub numbers_of : Data → Result ArrayField TreeError
numbers_of d = do
  p ← object_of (with_field (codes "nums") (list_of number_of) (with_field (codes "shape") (list_of whole_of) ended)) d
  Ok (record { shape = p.1.0; elements = Numbers p.0 })

unfoldable pub characters_of : Data → Result ArrayField TreeError
characters_of d = do
  p ← object_of (with_field (codes "shape") (list_of whole_of) (with_field (codes "text") text_of ended)) d
  Ok (record { shape = p.0; elements = Text p.1.0 })

unfoldable pub array_of : Data → Result ArrayField TreeError
array_of d = if has (codes "nums") d then numbers_of d else characters_of d

unfoldable pub slots_of : Data → Result (List (Option ArrayField)) TreeError
slots_of d = do
  p ← object_of (with_field (codes "slots") (list_of (option_of array_of)) ended) d
  Ok p.0

unfoldable pub operand_of : Data → Result OperandField TreeError
operand_of d = if has (codes "slots") d then (slots_of d >>= λ s. Ok (Slots s)) else (array_of d >>= λ a. Ok (Array a))

-- ---- contexts

unfoldable pub rest_of : Data → Result RestField TreeError
rest_of d = do
  p ← object_of (with_field (codes "classes") text_of (with_field (codes "code") text_of (with_field (codes "done") whole_of
      (with_field (codes "operands") (list_of operand_of) ended)))) d
  Ok (record { classes = p.0; code = p.1.0; done = p.1.1.0; operands = p.1.1.1.0 })

unfoldable pub local_of : Data → Result LocalField TreeError
local_of d = do
  p ← object_of (with_field (codes "name") text_of (with_field (codes "value") (option_of array_of) ended)) d
  Ok (record { name = p.0; value = p.1.0 })

unfoldable pub statement_of : Data → Result StatementField TreeError
statement_of d = do
  p ← object_of (with_field (codes "kind") (word_of (codes "statement")) (with_field (codes "line") text_of (with_field (codes "rest") rest_of ended))) d
  Ok (record { line = p.1.0; rest = p.1.1.0 })

unfoldable pub execute_of : Data → Result StatementField TreeError
execute_of d = do
  p ← object_of (with_field (codes "kind") (word_of (codes "execute")) (with_field (codes "rest") rest_of (with_field (codes "text") text_of ended))) d
  Ok (record { line = p.1.1.0; rest = p.1.0 })

unfoldable pub call_of : Data → Result CallField TreeError
call_of d = do
  p ← object_of (with_field (codes "at") whole_of (with_field (codes "header") text_of (with_field (codes "kind") (word_of (codes "call"))
      (with_field (codes "lines") (list_of text_of) (with_field (codes "locals") (list_of local_of) (with_field (codes "rest") (option_of rest_of) ended)))))) d
  Ok (record { at = p.0; header = p.1.0; lines = p.1.1.1.0; locals = p.1.1.1.1.0; rest = p.1.1.1.1.1.0 })

abbrev pub context_named : Option (List ℕ) → Data → Result ContextField TreeError
context_named None d = Err Form
context_named (Some kind) d =
    if bytes_eq kind (codes "call") then (call_of d >>= λ c. Ok (Call c))
    else (if bytes_eq kind (codes "statement") then (statement_of d >>= λ s. Ok (Statement s))
    else (if bytes_eq kind (codes "execute") then (execute_of d >>= λ s. Ok (Execute s)) else Err Form))

unfoldable pub context_of : Data → Result ContextField TreeError
context_of d = context_named (kind_of d) d

-- ---- a file

unfoldable pub function_of : Data → Result FunctionField TreeError
function_of d = do
  p ← object_of (with_field (codes "header") text_of (with_field (codes "lines") (list_of text_of)
      (with_field (codes "stop") (list_of whole_of) (with_field (codes "trace") (list_of whole_of) ended)))) d
  Ok (record { header = p.0; lines = p.1.0; stop = p.1.1.0; trace = p.1.1.1.0 })

unfoldable pub variable_of : Data → Result VariableField TreeError
variable_of d = do
  p ← object_of (with_field (codes "name") text_of (with_field (codes "value") array_of ended)) d
  Ok (record { name = p.0; value = p.1.0 })

unfoldable pub version_of : Data → Result Version TreeError
version_of d = whole_of d >>= λ n. if n == 1 then Ok One else (if n == 2 then Ok Two else Err Form)

unfoldable pub members_of : Data → Result File TreeError
members_of d = do
  p ← object_of (with_field (codes "contexts") (list_of context_of) (with_field (codes "functions") (list_of function_of) (with_field (codes "io") whole_of
      (with_field (codes "variables") (list_of variable_of) (with_field (codes "version") version_of ended))))) d
  Ok (record { version = p.1.1.1.1.0; functions = p.1.0; variables = p.1.1.1.0; origin = p.1.1.0; contexts = p.0 })

abbrev pub kept : File → Result File TreeError
kept f = if nat_lt f.origin 2 && fits_version f.version f.contexts then Ok f else Err Form

unfoldable pub file_of : Data → Result File TreeError
file_of d = members_of d >>= kept
