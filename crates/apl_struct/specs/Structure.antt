-- The functions of structure and selection by their symbols.
use Rattle.std.specs.Prelude.{ℕ, List, Option, Some, None, Result, Ok, Err}
use Rattle.apl_faults.specs.declared.fault.Fault.{Fault}
use Rattle.apl_faults.specs.declared.fault.Fault.TheVariants.{Syntax}
use Rattle.apl_arrays.specs.declared.axis_choice.Along.TheVariants.{First, Last}
use Rattle.apl_arrays.specs.Along.{along_slots}
use Rattle.apl_arrays.specs.Cells.{Arr}
use Rattle.apl_symbols.specs.declared.primitive.Primitive.{Primitive}
use Rattle.apl_symbols.specs.declared.primitive.Primitive.TheVariants as primitives
use Rattle.apl_reshape.specs.Reshape.{shape_of, raveled, reshaped}
use Rattle.apl_reshape.specs.Take.{taken, dropped}
use Rattle.apl_reshape.specs.Catenate.{catenated}
use Rattle.apl_turns.specs.Turns.{transposed, transposed_by, reversed_along, rotated}
use Rattle.apl_select.specs.Compress.{compressed, expanded}
use Rattle.apl_search.specs.Counted.{iota}
use Rattle.apl_search.specs.Ordered.{graded, rising, falling}
use Rattle.apl_search.specs.Found.{index_of, membership}
use Rattle.apl_search.specs.Decoded.{decode}
use Rattle.apl_search.specs.Encoded.{encode}

-- `F B`; a function that takes no single array is SYNTAX ERROR
abbrev pub plain1 : Primitive → Arr → ℕ → Result Arr Fault
plain1 primitives.Rho b origin = Ok (shape_of b)
plain1 primitives.Comma b origin = Ok (raveled b)
plain1 primitives.Iota b origin = iota b origin
plain1 primitives.CircleStile b origin = reversed_along Last origin b
plain1 primitives.CircleBar b origin = reversed_along First origin b
plain1 primitives.CircleSlope b origin = Ok (transposed b)
plain1 primitives.GradeUp b origin = graded rising b origin
plain1 primitives.GradeDown b origin = graded falling b origin
plain1 f b origin = Err Syntax

-- `F K B`; a function that takes no axis is SYNTAX ERROR
abbrev pub along1 : Primitive → List (Option Arr) → Arr → ℕ → Result Arr Fault
along1 primitives.CircleStile axis b origin = reversed_along (along_slots axis) origin b
along1 primitives.CircleBar axis b origin = reversed_along (along_slots axis) origin b
along1 f axis b origin = Err Syntax

-- a function of one array, with an axis or without
abbrev pub structural1 : Primitive → Option (List (Option Arr)) → Arr → ℕ → Result Arr Fault
structural1 f None b origin = plain1 f b origin
structural1 f (Some axis) b origin = along1 f axis b origin

-- `B F B`; a function that takes no two arrays is SYNTAX ERROR
abbrev pub plain2 : Primitive → Arr → Arr → ℕ → Result Arr Fault
plain2 primitives.Rho a b origin = reshaped a b
plain2 primitives.Comma a b origin = catenated Last origin a b
plain2 primitives.CircleStile a b origin = rotated Last origin a b
plain2 primitives.CircleBar a b origin = rotated First origin a b
plain2 primitives.CircleSlope a b origin = transposed_by origin a b
plain2 primitives.UpArrow a b origin = taken a b
plain2 primitives.DownArrow a b origin = dropped a b
plain2 primitives.Slash a b origin = compressed Last a b origin
plain2 primitives.SlashBar a b origin = compressed First a b origin
plain2 primitives.Slope a b origin = expanded Last a b origin
plain2 primitives.SlopeBar a b origin = expanded First a b origin
plain2 primitives.Iota a b origin = index_of a b origin
plain2 primitives.Epsilon a b origin = Ok (membership a b)
plain2 primitives.UpTack a b origin = decode a b
plain2 primitives.DownTack a b origin = encode a b
plain2 f a b origin = Err Syntax

-- `B F K B`; a function that takes no axis is SYNTAX ERROR
abbrev pub along2 : Primitive → List (Option Arr) → Arr → Arr → ℕ → Result Arr Fault
along2 primitives.Comma axis a b origin = catenated (along_slots axis) origin a b
along2 primitives.CircleStile axis a b origin = rotated (along_slots axis) origin a b
along2 primitives.CircleBar axis a b origin = rotated (along_slots axis) origin a b
along2 primitives.Slash axis a b origin = compressed (along_slots axis) a b origin
along2 primitives.SlashBar axis a b origin = compressed (along_slots axis) a b origin
along2 primitives.Slope axis a b origin = expanded (along_slots axis) a b origin
along2 primitives.SlopeBar axis a b origin = expanded (along_slots axis) a b origin
along2 f axis a b origin = Err Syntax

-- a function of two arrays, with an axis or without
abbrev pub structural2 : Primitive → Option (List (Option Arr)) → Arr → Arr → ℕ → Result Arr Fault
structural2 f None a b origin = plain2 f a b origin
structural2 f (Some axis) a b origin = along2 f axis a b origin
