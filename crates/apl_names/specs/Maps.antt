-- The names in force: maps from names to what they stand for, the newest first and the global one last.
use Rattle.std.specs.Prelude.{◌≡◌, ℕ, ℤ, pos, List, [], ◌∷◌, drop, length, map, Bool, true, false, Option, Some, None, option_map, is_some, if◌then◌else◌}
use Rattle.std.specs.Option.{option_or}
use Rattle.std.specs.declared.cmp.Ordering.{Ordering}
use Rattle.std.specs.declared.cmp.Ordering.TheVariants.{Less}
use Rattle.std.specs.Ordering.{nat_cmp}
use Rattle.std.specs.Cmp.Lexicographic.{slice_cmp}
use Rattle.std.specs.Str.{bytes_eq}
use Rattle.std.specs.Map.{lookup, remove_entry}
use Rattle.std.specs.BTreeMap.{insert_entry}
use Rattle.apl_arrays.specs.Cells.{Arr}
use Rattle.apl_arrays.specs.Simple.{number_of_scalar}
use Rattle.apl_symbols.specs.declared.class.Class.{Class}
use Rattle.apl_symbols.specs.declared.class.Class.TheVariants.{Variable}
use Rattle.apl_defn.specs.Definitions as defn
use Rattle.apl_names.specs.declared.binding.Binding.{Binding}
use Rattle.apl_names.specs.declared.binding.Binding.TheVariants.{Unset, Label, Value, Function}

-- a name, by its characters
abbrev pub Text : Type 0
Text = List ℕ

-- names with what they stand for, each name once, ascending
abbrev pub Map : Type 0
Map = List (Text × Binding)

-- the order of names: by code points from the first on, a prefix before the whole
abbrev pub name_cmp : Text → Text → Ordering
name_cmp = slice_cmp nat_cmp

-- the names ascend from above n
abbrev pub IsAbove : Text → Map → Type 0
IsAbove n [] = Unit {0}
IsAbove n (e ∷ es) = (name_cmp n e.0 ≡ Less) × IsAbove e.0 es

-- the names ascend, and so each stands there once
abbrev pub IsMap : Map → Type 0
IsMap [] = Unit {0}
IsMap (e ∷ es) = IsAbove e.0 es

-- what a map says of a name, if it has the name
abbrev pub said : Map → Text → Option Binding
said m n = lookup (bytes_eq n) m

-- the name with what a map says of it, if it has the name
abbrev pub entry_at : Map → Text → Option (Text × Binding)
entry_at m n = option_map (λ b. (n, b)) (said m n)

-- the map in which n stands for b
abbrev pub with_entry : Text → Binding → Map → Map
with_entry n b m = insert_entry name_cmp m n b

-- the map without n
abbrev pub without_entry : Text → Map → Map
without_entry n m = remove_entry (bytes_eq n) m

-- the map of these bindings; of two of one name, the first stands
abbrev pub map_of : List (Text × Binding) → Map
map_of [] = []
map_of (e ∷ es) = with_entry e.0 e.1 (map_of es)

-- what the newest map that has the name says of it
abbrev pub found : List Map → Text → Option Binding
found [] n = None
found (m ∷ ms) n = option_or (said m n) (found ms n)

-- n stands for b in the newest map that has n, and else in the global one
abbrev pub assigned : List Map → Text → Binding → List Map
assigned [] n b = []
assigned (m ∷ []) n b = with_entry n b m ∷ []
assigned (m ∷ k ∷ ms) n b = if is_some (said m n) then with_entry n b m ∷ k ∷ ms else m ∷ assigned (k ∷ ms) n b

-- n stands for b in the newest map
abbrev pub with_local : Text → Binding → List Map → List Map
with_local n b [] = []
with_local n b (m ∷ ms) = with_entry n b m ∷ ms

-- these names stand for that in the newest map; of two of one name, the first stands
abbrev pub with_locals : List (Text × Binding) → List Map → List Map
with_locals [] ms = ms
with_locals (e ∷ es) ms = with_local e.0 e.1 (with_locals es ms)

-- the newest map alone may be another
abbrev pub AreBeneath : List Map → List Map → Type 0
AreBeneath old new = (length new ≡ length old) × (drop 1 new ≡ drop 1 old)

-- n stands for b in the global map
abbrev pub with_global : Text → Binding → List Map → List Map
with_global n b [] = []
with_global n b (m ∷ []) = with_entry n b m ∷ []
with_global n b (m ∷ k ∷ ms) = m ∷ with_global n b (k ∷ ms)

-- the global map has n no more
abbrev pub without_global : Text → List Map → List Map
without_global n [] = []
without_global n (m ∷ []) = without_entry n m ∷ []
without_global n (m ∷ k ∷ ms) = m ∷ without_global n (k ∷ ms)

-- the value that a name has
abbrev pub value_in : Option Binding → Option Arr
value_in None = None
value_in (Some Unset) = None
value_in (Some (Label line)) = None
value_in (Some (Value array)) = Some array
value_in (Some (Function d)) = None

-- the number that a name gives where it is read: that which its value is, if it is a scalar and a number, or that of a label's line
abbrev pub number_in : Option Binding → Option ℤ
number_in None = None
number_in (Some Unset) = None
number_in (Some (Label line)) = Some (pos line)
number_in (Some (Value array)) = number_of_scalar array
number_in (Some (Function d)) = None

-- a binding with the value a in place of its own, if it has one
abbrev pub with_value : Arr → Option Binding → Option Binding
with_value a (Some (Value array)) = Some (Value a)
with_value a binding = binding

-- what a name stands for can become another value in place: a value, or unset
abbrev pub takes_value : Option Binding → Bool
takes_value (Some Unset) = true
takes_value (Some (Value array)) = true
takes_value binding = false

-- a binding that has become the value a, if it takes one
abbrev pub set_value : Arr → Option Binding → Option Binding
set_value a (Some Unset) = Some (Value a)
set_value a binding = with_value a binding

-- the class of a name
abbrev pub class_in : Option Binding → Class
class_in None = Variable
class_in (Some Unset) = Variable
class_in (Some (Label line)) = Variable
class_in (Some (Value array)) = Variable
class_in (Some (Function d)) = defn.class_of d

-- the global map
abbrev pub last_map : List Map → Map
last_map [] = []
last_map (m ∷ []) = m
last_map (m ∷ k ∷ ms) = last_map (k ∷ ms)

-- the newest map
abbrev pub first_map : List Map → Map
first_map [] = []
first_map (m ∷ ms) = m

-- the function that a binding is
abbrev pub function_in : Option Binding → Option defn.Definition
function_in (Some (Function d)) = Some d
function_in binding = None

-- the binding is a function
abbrev pub is_function : Binding → Bool
is_function (Function d) = true
is_function binding = false

-- the names that a map has, ascending, and whether each is that of a function
abbrev pub kinds_in : Map → List (Text × Bool)
kinds_in m = map (λ e. (e.0, is_function e.1)) m
