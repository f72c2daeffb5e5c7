-- Files of one tree are one file.
use Rattle.std.proofs.Common.{◌≡◌, ℕ, ℤ, pos, negsuc, Bool, false, bytes_eq, Option, List, [], ◌∷◌, map, codes, Some, None, refl, sym, ap, ◌∙◌, true≢false}
use Rattle.serde_json.specs.Data.{Data, null, boolean, number, string, array, object, Members, member, no_members}
use Rattle.serde_json.specs.View.{items_of}
use Rattle.apl_workspace_file.specs.Trees.{whole_tree, number_tree, list_tree, option_tree, elements_tree, array_tree, operand_tree, rest_tree, local_tree, statement_tree, execute_tree, call_tree, context_tree, function_tree, variable_tree, version_tree, tree_of}
use Rattle.apl_workspace_file.specs.Reading.{has, kind_of}
use Rattle.apl_workspace_file.specs.declared.fields.Version.TheVariants.{One, Two}
use Rattle.apl_workspace_file.specs.declared.fields.File.{File}
use Rattle.apl_workspace_file.specs.declared.fields.ArrayField.{ArrayField}
use Rattle.apl_workspace_file.specs.declared.fields.Elements.{Elements}
use Rattle.apl_workspace_file.specs.declared.fields.Elements.TheVariants.{Numbers, Text}
use Rattle.apl_workspace_file.specs.declared.fields.ContextField.TheVariants.{Statement, Call, Execute}
use Rattle.apl_workspace_file.specs.declared.fields.OperandField.TheVariants.{Array, Slots}

-- values of one tree are one value
abbrev IsOne : {A : Type 0} → (A → Data) → Type 0
IsOne {A} tree = (x y : A) → tree x ≡ tree y → x ≡ y

-- equal parts make equal wholes
two : {A B R : Type 0} (f : A → B → R) {a x : A} {b y : B} → a ≡ x → b ≡ y → f a b ≡ f x y
two f p q = rw (p, q) refl

four : {A B C D R : Type 0} (f : A → B → C → D → R) {a x : A} {b y : B} {c z : C} {d w : D} → a ≡ x → b ≡ y → c ≡ z → d ≡ w → f a b c d ≡ f x y z w
four f p q r s = rw (p, q, r, s) refl

five : {A B C D E R : Type 0} (f : A → B → C → D → E → R) {a x : A} {b y : B} {c z : C} {d w : D} {e v : E} → a ≡ x → b ≡ y → c ≡ z → d ≡ w → e ≡ v → f a b c d e ≡ f x y z w v
five f p q r s t = rw (p, q, r, s, t) refl

-- ---- leaves

string_one : IsOne string
string_one x y e = cc

whole_one : IsOne whole_tree
whole_one x y e = cc

number_one : IsOne number_tree
number_one (pos m) (pos n) e = cc
number_one (pos m) (negsuc n) e = absurd cc
number_one (negsuc m) (pos n) e = absurd cc
number_one (negsuc m) (negsuc n) e = cc

-- ---- lists, and what may be missing

module _ {A : Type 0} (tree : A → Data) (one : IsOne tree) where
  items_one : (xs ys : List A) → items_of (map tree xs) ≡ items_of (map tree ys) → xs ≡ ys
  items_one [] [] e = refl
  items_one [] (y ∷ ys) e = absurd cc
  items_one (x ∷ xs) [] e = absurd cc
  items_one (x ∷ xs) (y ∷ ys) e =
      let first : tree x ≡ tree y = cc in
      let others : items_of (map tree xs) ≡ items_of (map tree ys) = cc in
      rw (one x y first, items_one xs ys others) refl

  list_one : IsOne (list_tree tree)
  list_one xs ys e = items_one xs ys cc

  option_one : ((x : A) → ¬ (tree x ≡ null)) → IsOne (option_tree tree)
  option_one other None None e = refl
  option_one other None (Some y) e = absurd (other y (sym e))
  option_one other (Some x) None e = absurd (other x e)
  option_one other (Some x) (Some y) e = ap Some (one x y e)

-- ---- objects

-- the members of an object
abbrev inside : Data → Members
inside (object ms) = ms
inside null = no_members
inside (boolean b) = no_members
inside (number n) = no_members
inside (string s) = no_members
inside (array ds) = no_members

abbrev first_value : Members → Data
first_value (member k d ms) = d
first_value no_members = null

abbrev after_first : Members → Members
after_first (member k d ms) = ms
after_first no_members = no_members

-- the value at each place of an object
abbrev at_0 : Data → Data
at_0 d = first_value (inside d)

abbrev at_1 : Data → Data
at_1 d = first_value (after_first (inside d))

abbrev at_2 : Data → Data
at_2 d = first_value (after_first (after_first (inside d)))

abbrev at_3 : Data → Data
at_3 d = first_value (after_first (after_first (after_first (inside d))))

abbrev at_4 : Data → Data
at_4 d = first_value (after_first (after_first (after_first (after_first (inside d)))))

abbrev at_5 : Data → Data
at_5 d = first_value (after_first (after_first (after_first (after_first (after_first (inside d))))))

-- ---- arrays and operands

abbrev array_of_parts : List ℕ → Elements → ArrayField
array_of_parts shape elements = record { shape = shape; elements = elements }

numbers_one : (s t : List ℕ) (x y : List ℤ) → elements_tree s (Numbers x) ≡ elements_tree t (Numbers y) → array_of_parts s (Numbers x) ≡ array_of_parts t (Numbers y)
numbers_one s t x y e = rw (list_one whole_tree whole_one s t (ap at_1 e), list_one number_tree number_one x y (ap at_0 e)) refl

characters_one : (s t : List ℕ) (x y : List ℕ) → elements_tree s (Text x) ≡ elements_tree t (Text y) → array_of_parts s (Text x) ≡ array_of_parts t (Text y)
characters_one s t x y e = rw (list_one whole_tree whole_one s t (ap at_0 e), string_one x y (ap at_1 e)) refl

array_one_at : (s t : List ℕ) (x y : Elements) → elements_tree s x ≡ elements_tree t y → array_of_parts s x ≡ array_of_parts t y
array_one_at s t (Numbers x) (Numbers y) e = numbers_one s t x y e
array_one_at s t (Text x) (Text y) e = characters_one s t x y e
array_one_at s t (Numbers x) (Text y) e = absurd (true≢false (ap (has (codes "nums")) e))
array_one_at s t (Text x) (Numbers y) e = absurd (true≢false (ap (has (codes "text")) e))

array_one : IsOne array_tree
array_one a b e = array_one_at a.shape b.shape a.elements b.elements e

array_no_null_at : (s : List ℕ) (x : Elements) → ¬ (elements_tree s x ≡ null)
array_no_null_at s (Numbers x) e = absurd cc
array_no_null_at s (Text x) e = absurd cc

maybe_array_one : IsOne (option_tree array_tree)
maybe_array_one = option_one array_tree array_one (λ a. array_no_null_at a.shape a.elements)

no_slots : (s : List ℕ) (x : Elements) → has (codes "slots") (elements_tree s x) ≡ false
no_slots s (Numbers x) = refl
no_slots s (Text x) = refl

operand_one : IsOne operand_tree
operand_one (Array a) (Array b) e = ap Array (array_one a b e)
operand_one (Slots x) (Slots y) e = ap Slots (list_one (option_tree array_tree) maybe_array_one x y (ap at_0 e))
operand_one (Slots x) (Array b) e = absurd (true≢false (ap (has (codes "slots")) e ∙ no_slots b.shape b.elements))
operand_one (Array a) (Slots y) e = absurd (true≢false (ap (has (codes "slots")) (sym e) ∙ no_slots a.shape a.elements))

-- ---- contexts

rest_one : IsOne rest_tree
rest_one r s e = four (λ a b c d. record { classes = a; code = b; done = c; operands = d }) (string_one _ _ (ap at_0 e)) (string_one _ _ (ap at_1 e)) (whole_one _ _ (ap at_2 e)) (list_one operand_tree operand_one _ _ (ap at_3 e))

maybe_rest_one : IsOne (option_tree rest_tree)
maybe_rest_one = option_one rest_tree rest_one (λ r e. absurd cc)

local_one : IsOne local_tree
local_one l m e = two (λ a b. record { name = a; value = b }) (string_one _ _ (ap at_0 e)) (maybe_array_one _ _ (ap at_1 e))

statement_one : IsOne statement_tree
statement_one s t e = two (λ a b. record { line = a; rest = b }) (string_one _ _ (ap at_1 e)) (rest_one _ _ (ap at_2 e))

execute_one : IsOne execute_tree
execute_one s t e = two (λ a b. record { line = a; rest = b }) (string_one _ _ (ap at_2 e)) (rest_one _ _ (ap at_1 e))

call_one : IsOne call_tree
call_one c d e = five (λ a b x y z. record { at = a; header = b; lines = x; locals = y; rest = z }) (whole_one _ _ (ap at_0 e)) (string_one _ _ (ap at_1 e)) (list_one string string_one _ _ (ap at_3 e))
    (list_one local_tree local_one _ _ (ap at_4 e)) (maybe_rest_one _ _ (ap at_5 e))

abbrev is_word : List ℕ → Option (List ℕ) → Bool
is_word word None = false
is_word word (Some s) = bytes_eq s word

abbrev says : List ℕ → Data → Bool
says word d = is_word word (kind_of d)

context_one : IsOne context_tree
context_one (Statement s) (Statement t) e = ap Statement (statement_one s t e)
context_one (Call c) (Call d) e = ap Call (call_one c d e)
context_one (Execute s) (Execute t) e = ap Execute (execute_one s t e)
context_one (Statement s) (Call d) e = absurd (true≢false (ap (says (codes "statement")) e))
context_one (Statement s) (Execute t) e = absurd (true≢false (ap (says (codes "statement")) e))
context_one (Call c) (Statement t) e = absurd (true≢false (ap (says (codes "call")) e))
context_one (Call c) (Execute t) e = absurd (true≢false (ap (says (codes "call")) e))
context_one (Execute s) (Statement t) e = absurd (true≢false (ap (says (codes "execute")) e))
context_one (Execute s) (Call d) e = absurd (true≢false (ap (says (codes "execute")) e))

-- ---- files

function_one : IsOne function_tree
function_one f g e = four (λ a b c d. record { header = a; lines = b; stop = c; trace = d }) (string_one _ _ (ap at_0 e)) (list_one string string_one _ _ (ap at_1 e)) (list_one whole_tree whole_one _ _ (ap at_2 e))
    (list_one whole_tree whole_one _ _ (ap at_3 e))

variable_one : IsOne variable_tree
variable_one v w e = two (λ a b. record { name = a; value = b }) (string_one _ _ (ap at_0 e)) (array_one _ _ (ap at_1 e))

version_one : IsOne version_tree
version_one One One e = refl
version_one Two Two e = refl
version_one One Two e = absurd cc
version_one Two One e = absurd cc

pub file_one : (f g : File) → tree_of f ≡ tree_of g → f ≡ g
file_one f g e = five (λ a b x y z. record { version = a; functions = b; variables = x; origin = y; contexts = z }) (version_one _ _ (ap at_4 e)) (list_one function_tree function_one _ _ (ap at_1 e)) (list_one variable_tree variable_one _ _ (ap at_3 e))
    (whole_one _ _ (ap at_2 e)) (list_one context_tree context_one _ _ (ap at_0 e))
