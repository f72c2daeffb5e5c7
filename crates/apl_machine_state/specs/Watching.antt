-- ⎕STOP and ⎕TRACE, and what traced lines write.
use Rattle.std.specs.Prelude.{ℕ, suc, ℤ, pos, nat_le, Bool, List, [], ◌∷◌, ◌++◌}
use Rattle.std.specs.Prelude.{length, map, filter, Option, Some, None, if◌then◌else◌}
use Rattle.std.specs.List.{list_any}
use Rattle.std.specs.Ordering.{int_eq}
use Rattle.apl_arrays.specs.Cells.{Arr, Items, Numbers, Characters}
use Rattle.apl_arrays.specs.Simple.{vector}
use Rattle.apl_symbols.specs.Names.{is_short_enough}
use Rattle.apl_faults.specs.Report.{place}
use Rattle.apl_names.specs.Maps.{function_in, last_map, said}
use Rattle.apl_vectors.specs.Vectors.{has_line}
use Rattle.apl_defn.specs.Definitions.{Text, Definition}
use Rattle.apl_machine_state.specs.declared.output.LineKind.TheVariants.{Trace}
use Rattle.apl_machine_state.specs.declared.output.OutLine.{OutLine}
use Rattle.apl_machine_state.specs.Environment.{World, Context, Statement, Call, Execute, Scene}
use Rattle.apl_machine_state.specs.Reports.{lines_of}

-- a vector of line numbers as an array
abbrev pub lines_array : List ℕ → Arr
lines_array lines = vector (Numbers (map pos lines))

-- the numbers where numbers are wanted; no characters are no numbers either
abbrev pub numbers_in : Items → Option (List ℤ)
numbers_in (Numbers numbers) = Some numbers
numbers_in (Characters []) = Some []
numbers_in (Characters (c ∷ text)) = None

-- the numbers of lines, the first of which is the n-th
abbrev pub numbered : ℕ → List Text → List ℕ
numbered n [] = []
numbered n (line ∷ lines) = n ∷ numbered (suc n) lines

-- the lines of a function that are among these numbers, ascending
abbrev pub lines_among : List ℤ → Definition → List ℕ
lines_among numbers d = filter (λ n. list_any (λ z. int_eq z (pos n)) numbers) (numbered 1 d.lines)

-- the function that a text names globally, if it is short enough for a name
abbrev pub function_named : Scene → Text → Option Definition
function_named s text = if is_short_enough text then function_in (said (last_map s.maps) text) else None

-- an array of rank at most 1
abbrev pub is_list : Arr → Bool
is_list a = nat_le (length a.shape) 1

-- A traced line writes its place and what it came to: the lines of a display follow the first line of it as they are.
abbrev pub behind : Text → List Text → List Text
behind prefix [] = prefix ∷ []
behind prefix (line ∷ lines) = (prefix ++ line) ∷ lines

-- what the line of the nearest statement or call writes as it ends, if it is traced: its place, this mark and these lines
abbrev pub traced : World → List Context → Text → List Text → List OutLine
traced w [] mark lines = []
traced w (Execute text rest ∷ below) mark lines = traced w below mark lines
traced w (Statement text rest ∷ below) mark lines = []
traced w (Call d n locals rest ∷ below) mark lines = if has_line d.header.name n w.traces then lines_of Trace (behind (place (d.header.name, n) ++ mark) lines) else []

-- the marks before a value and before where a branch goes
abbrev pub blank : Text
blank = 32 ∷ []

abbrev pub arrow : Text
arrow = 32 ∷ 0x2192 ∷ []
