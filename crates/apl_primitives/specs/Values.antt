-- The values of phrases that the primitives give.
use Rattle.std.specs.Prelude.{ℕ, List, Option, Some, None, Result, Ok, Err}
use Rattle.apl_faults.specs.declared.fault.Fault.{Fault}
use Rattle.apl_faults.specs.declared.fault.Fault.TheVariants.{Syntax}
use Rattle.apl_arrays.specs.declared.axis_choice.Along.{Along}
use Rattle.apl_arrays.specs.declared.axis_choice.Along.TheVariants.{First, Last}
use Rattle.apl_arrays.specs.Along.{along_slots}
use Rattle.apl_arrays.specs.Cells.{Arr}
use Rattle.apl_scalar.specs.declared.function.Monadic.{Monadic as MonadicScalar}
use Rattle.apl_scalar.specs.declared.function.Dyadic.{Dyadic as DyadicScalar}
use Rattle.apl_scalar.specs.Extension.{monadic, dyadic}
use Rattle.apl_format.specs.Formatted.{formatted}
use Rattle.apl_folds.specs.Folds.{reduction}
use Rattle.apl_folds.specs.Scans.{scanning}
use Rattle.apl_operators.specs.Products.{outer_product, inner_product}
use Rattle.apl_select.specs.Indexing.{indexed}
use Rattle.apl_struct.specs.Structure.{structural1, structural2}
use Rattle.apl_symbols.specs.declared.primitive.Primitive.{Primitive as AnyPrimitive}
use Rattle.apl_symbols.specs.declared.primitive.Primitive.TheVariants as primitives
use Rattle.apl_symbols.specs.declared.primitive.Operator.{Operator}
use Rattle.apl_symbols.specs.declared.primitive.Operator.TheVariants.{Slash, SlashBar, Slope, SlopeBar}
use Rattle.apl_code.specs.declared.row.Function.TheVariants.{Primitive}
use Rattle.apl_code.specs.declared.row.Row.{Row}
use Rattle.apl_code.specs.declared.row.Row.TheVariants as rows
use Rattle.apl_primitives.specs.Tables.{monadic_of, dyadic_of}
use Rattle.apl_primitives.specs.Taken.{Taken, One, Two, ListAndOne, AlongTwo, Selected, Other}

-- a scalar function of one array, where the primitive has one, and else one of structure
abbrev pub scalar_or_structural1 : Option MonadicScalar → AnyPrimitive → Arr → ℕ → Result Arr Fault
scalar_or_structural1 (Some g) f b origin = monadic g b
scalar_or_structural1 None f b origin = structural1 f None b origin

-- the same of two arrays
abbrev pub scalar_or_structural2 : Option DyadicScalar → AnyPrimitive → Arr → Arr → ℕ → Result Arr Fault
scalar_or_structural2 (Some g) f a b origin = dyadic g a b
scalar_or_structural2 None f a b origin = structural2 f None a b origin

-- `F B`: ⍕ gives the characters of the display
abbrev pub of_one : AnyPrimitive → Arr → ℕ → Result Arr Fault
of_one primitives.Format b origin = formatted b
of_one f b origin = scalar_or_structural1 (monadic_of f) f b origin

-- the axis of an operator beside which none is named
abbrev pub own_axis : Operator → Along
own_axis Slash = Last
own_axis SlashBar = First
own_axis Slope = Last
own_axis SlopeBar = First

-- / and ⌿ reduce, \ and ⍀ scan
abbrev pub derived_along : Operator → DyadicScalar → Along → Arr → ℕ → Result Arr Fault
derived_along Slash g along b origin = reduction g along b origin
derived_along SlashBar g along b origin = reduction g along b origin
derived_along Slope g along b origin = scanning g along b origin
derived_along SlopeBar g along b origin = scanning g along b origin

-- an operator takes scalar functions of two arrays alone
abbrev pub derived : Operator → Option DyadicScalar → Along → Arr → ℕ → Result Arr Fault
derived m None along b origin = Err Syntax
derived m (Some g) along b origin = derived_along m g along b origin

abbrev pub outer_by : Option DyadicScalar → Arr → Arr → Result Arr Fault
outer_by None a b = Err Syntax
outer_by (Some g) a b = outer_product g a b

abbrev pub inner_by : Option DyadicScalar → Option DyadicScalar → Arr → Arr → Result Arr Fault
inner_by None g a b = Err Syntax
inner_by (Some f) None a b = Err Syntax
inner_by (Some f) (Some g) a b = inner_product f g a b

-- a row that takes one value
abbrev pub by_one : Row → Arr → ℕ → Result Arr Fault
by_one rows.Group b origin = Ok b
by_one (rows.Monadic (Primitive f)) b origin = of_one f b origin
by_one (rows.Reduce (Primitive f) m) b origin = derived m (dyadic_of f) (own_axis m) b origin
by_one row b origin = Err Syntax

-- a row that takes two values
abbrev pub by_two : Row → Arr → Arr → ℕ → Result Arr Fault
by_two (rows.Dyadic (Primitive f)) a b origin = scalar_or_structural2 (dyadic_of f) f a b origin
by_two (rows.Inner (Primitive f) (Primitive g)) a b origin = inner_by (dyadic_of f) (dyadic_of g) a b
by_two (rows.Outer (Primitive g)) a b origin = outer_by (dyadic_of g) a b
by_two row a b origin = Err Syntax

-- a row that takes an axis and a value
abbrev pub by_axis_and_one : Row → List (Option Arr) → Arr → ℕ → Result Arr Fault
by_axis_and_one (rows.MonadicAxis (Primitive f)) axis b origin = structural1 f (Some axis) b origin
by_axis_and_one (rows.ReduceAxis (Primitive f) m) axis b origin = derived m (dyadic_of f) (along_slots axis) b origin
by_axis_and_one row axis b origin = Err Syntax

-- a row that takes a value, an axis and a value
abbrev pub by_axis_and_two : Row → List (Option Arr) → Arr → Arr → ℕ → Result Arr Fault
by_axis_and_two (rows.DyadicAxis (Primitive f)) axis a b origin = structural2 f (Some axis) a b origin
by_axis_and_two row axis a b origin = Err Syntax

-- a row that takes a value and an index list
abbrev pub by_index_list : Row → Arr → List (Option Arr) → ℕ → Result Arr Fault
by_index_list rows.Select b slots origin = indexed b slots origin
by_index_list row b slots origin = Err Syntax

-- the value that a phrase of this row gives from what it takes; a row without a meaning is SYNTAX ERROR
abbrev pub phrase_value : Row → Taken → ℕ → Result Arr Fault
phrase_value row (One b) origin = by_one row b origin
phrase_value row (Two a b) origin = by_two row a b origin
phrase_value row (ListAndOne axis b) origin = by_axis_and_one row axis b origin
phrase_value row (AlongTwo a axis b) origin = by_axis_and_two row axis a b origin
phrase_value row (Selected b slots) origin = by_index_list row b slots origin
phrase_value row Other origin = Err Syntax
